-- Going from change to change gives the walk over every step.
use Rattle.std.specs.Prelude.{ℕ, suc, zero, ◌-◌, Bool, false, cond, List, [], ◌∷◌, ◌++◌, nat_lt, if◌then◌else◌}
use Rattle.std.specs.declared.option.Option.{Option}
use Rattle.std.specs.declared.option.Option.TheVariants.{None, Some}
use Rattle.cp_model.specs.Place.{Path, in_target}
use Rattle.cp_model.specs.Past.{Event, born, copied, lost}
use Rattle.cp_model.specs.Rows.{Reading, same, made, from, left, gone, is_same}

-- what each step, by its Tid, tells of each place
abbrev pub Readings : Type 0
Readings = ℕ → Path → Reading

-- the place is left, and nothing has changed
abbrev pub tells_same : Reading → Bool
tells_same (left e) = is_same e
tells_same gone = false

-- the greatest Tid up to t at which p is told to be other than the same, with what is told of it
unfoldable pub last : Readings → ℕ → Path → Option (ℕ × Reading)
last E zero p = None
last E (suc t) p = if tells_same (E (suc t) p) then last E t p else Some (suc t, E (suc t) p)

-- the loss of p at step t, if there is one
abbrev pub lost_at : (ℕ → Path → Bool) → ℕ → Path → List Event
lost_at L t p = if L t p then lost t ∷ [] else []

-- the losses of p after step v up to step t
unfoldable pub losts : (ℕ → Path → Bool) → ℕ → ℕ → Path → List Event
losts L v zero p = []
losts L v (suc t) p = cond (nat_lt v (suc t)) (losts L v t p ++ lost_at L (suc t) p) []

-- the past that one change and the past before it give
unfoldable pub before : (ℕ → Path → List Event) → ℕ → Path → Reading → List Event
before prev u p (left same) = []
before prev u p (left made) = born u ∷ []
before prev u p (left (from q)) = if in_target q then prev (u - 1) q.path ++ copied u q ∷ [] else copied u q ∷ []
before prev u p gone = []

-- the past of p at t from its newest change
unfoldable pub leap : (ℕ → Path → List Event) → (ℕ → Path → Bool) → ℕ → Path → Option (ℕ × Reading) → List Event
leap prev L t p None = losts L 0 t p
leap prev L t p (Some c) = before prev c.0 p c.1 ++ losts L c.0 t p

-- from change to change, n of them at most
unfoldable pub leap_back : Readings → (ℕ → Path → Bool) → ℕ → ℕ → Path → List Event
leap_back E L zero t p = []
leap_back E L (suc n) t p = leap (leap_back E L n) L t p (last E t p)
