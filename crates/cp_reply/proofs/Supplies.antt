-- What is told to a session, one after another.
use Rattle.std.proofs.Common.{◌≡◌, ℕ, List, [], ◌∷◌, ◌++◌, refl, ap, ◌∙◌, append_assoc, append-nil}
use Rattle.cp_outside.specs.FileReads.{FileTable}
use Rattle.cp_reply.specs.Session.{Supply, no_supply, followed_by}

supply_of : List ℕ → List FileTable → Supply
supply_of ms ts = record { moments = ms; tables = ts }

-- in whatever way it is put together
pub followed-assoc : (x y z : Supply) → followed_by (followed_by x y) z ≡ followed_by x (followed_by y z)
unfolding supply_of
followed-assoc x y z =
    ap (λ ms. supply_of ms ((x.tables ++ y.tables) ++ z.tables)) (append_assoc x.moments y.moments z.moments)
    ∙ ap (supply_of (x.moments ++ (y.moments ++ z.moments))) (append_assoc x.tables y.tables z.tables)

-- and then nothing
pub followed-none : (x : Supply) → followed_by x no_supply ≡ x
unfolding supply_of
followed-none x = ap (λ ms. supply_of ms (x.tables ++ [])) (append-nil x.moments) ∙ ap (supply_of x.moments) (append-nil x.tables)

-- before it nothing
pub none-followed : (x : Supply) → followed_by no_supply x ≡ x
none-followed x = refl
