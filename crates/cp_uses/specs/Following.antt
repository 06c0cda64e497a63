-- What following the copies of what was reached gives, and what it costs.
use Rattle.std.specs.Prelude.{ℕ, ◌+◌, ◌-◌, ◌≡◌, ◌≤◌, ◌<◌, Bool, true, false, List, [], ◌∷◌, if◌then◌else◌}
use Rattle.std.specs.List.{flat_map}
use Rattle.std.specs.declared.option.Option.{Option}
use Rattle.std.specs.declared.option.Option.TheVariants.{None, Some}
use Rattle.cp_path.specs.declared.loc.Loc.{Loc}
use Rattle.cp_model.specs.Changes.{AreNext}
use Rattle.cp_model.specs.declared.kind.Kind.{Kind}
use Rattle.cp_model.specs.declared.record.Record.{Record}
use Rattle.cp_store.specs.Counts.{calls_in}
use Rattle.cp_store.specs.declared.counted.Counted.{Counted}
use Rattle.cp_store.specs.declared.store.ProvStore as store
use Rattle.cp_uses.specs.declared.front.Front.{Front}
use Rattle.cp_uses.specs.declared.reached.Reached.{Reached}
use Rattle.cp_uses.specs.declared.stay.Stay.{Stay}
use Rattle.cp_uses.specs.Onward.{came, onward, add_new}
use Rattle.cp_uses.specs.Stays.{stands, is_over, IsKnown}
use Rattle.cp_uses.specs.InTime.{calls_to_follow, calls_for_copies}

-- the store keeps these rows, which are of steps up to its last, in order
pub record IsKept {P : Type 0} (p : store.Ghosts P) (store : P) (rs : List Record) : Type 0 where
  pub keeps : p.keeps store rs
  pub next : AreNext 0 (p.last_tid store) rs

-- b tells whether what was reached stood up to version v, what is known is so, and the count rose by so many at most, or by one
pub record Tells (k : Kind) (rs : List Record) (x : Reached) (v cost : ℕ) (b : Bool) (s z : Stay) (m n : ℕ) : Type 0 where
  pub stands : b ≡ stands k rs x v
  pub known : IsKnown k rs x z
  pub over : b ≡ false → is_over v z.changed ≡ true
  pub same : b ≡ true → z.changed ≡ s.changed
  pub calls : n ≤ m + (if b then cost else 1)

-- where the copy of a row took what was reached, if it came there
abbrev pub if_brought : Kind → List Record → Reached → ℕ → Option Loc → List Reached
if_brought k rs x u None = []
if_brought k rs x u (Some p) = if came k rs (record { place = p; tid = u }) x.place then record { place = p; tid = u } ∷ [] else []

-- what was found, what is known, and how many calls there were
pub record Progress : Type 0 where
  pub found : List Reached
  pub stay : Stay
  pub calls : ℕ

abbrev pub progress : {P : Type 0} → Front → Stay → Counted P → Progress
progress f s c = record { found = f.found.items; stay = s; calls = calls_in c }

-- the copy of a row was followed, if it was made in time, which b tells
pub record Follows (k : Kind) (rs : List Record) (x : Reached) (r : Record) (b : Bool) (old new : Progress) : Type 0 where
  pub found : new.found ≡ add_new old.found (onward k rs x r)
  pub tells : Tells k rs x (r.tid - 1) (calls_to_follow x r) b old.stay new.stay old.calls new.calls

-- the copies of these rows were followed, so many of whose sources have one that came too late
pub record Spreads (k : Kind) (rs : List Record) (x : Reached) (rows : List Record) (late last : ℕ) (old new : Progress) : Type 0 where
  pub found : new.found ≡ add_new old.found (flat_map (onward k rs x) rows)
  pub known : IsKnown k rs x new.stay
  pub over : 0 < late → is_over last new.stay.changed ≡ true
  pub kept : is_over last old.stay.changed ≡ true → is_over last new.stay.changed ≡ true
  pub calls : new.calls ≤ old.calls + (late + calls_for_copies k rs x rows)
