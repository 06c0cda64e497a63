-- The copies among rows, by the keys of the places from which they copied.
use Rattle.std.specs.Prelude.{ℕ, ◌+◌, ◌≡◌, ◌&&◌, Bool, true, false, List, [], ◌∷◌, filter, nat_lt, if◌then◌else◌, ⊤}
use Rattle.std.specs.List.{slice_get}
use Rattle.std.specs.declared.option.Option.{Option}
use Rattle.std.specs.declared.option.Option.TheVariants.{None, Some}
use Rattle.cp_path.specs.declared.loc.Loc.{Loc}
use Rattle.cp_path.specs.Text.{text_eq}
use Rattle.cp_model.specs.Changes.{rises}
use Rattle.cp_model.specs.declared.record.Record.{Record}
use Rattle.cp_store.specs.Index.{Index, steps_at}
use Rattle.cp_store.specs.declared.index.Step.{Step}
use Rattle.cp_uses.specs.Sources.{source_key, source_of}

-- the place has this key
abbrev pub has_key : List ℕ → Option Loc → Bool
has_key key None = false
has_key key (Some q) = text_eq key (source_key q)

-- the row is that of a copy from the place with this key
abbrev pub has_source : List ℕ → Record → Bool
has_source key r = has_key key (source_of r)

-- the copies from the place with this key in the steps after t
abbrev pub copies_by : List Record → List ℕ → ℕ → List Record
copies_by rs key t = filter (λ r. has_source key r && nat_lt t r.tid) rs

-- the steps of the copies from the place with this key, among rows of which the first has number n, in their order
abbrev pub copy_steps : List ℕ → ℕ → List Record → List Step
copy_steps key n [] = []
copy_steps key n (r ∷ rs) = if has_source key r then (record { tid = r.tid; row = n }) ∷ copy_steps key (n + 1) rs else copy_steps key (n + 1) rs

-- the index has the copies among these rows
abbrev pub AreCopiesOf : List Record → Index → Type 0
AreCopiesOf rs m = (key : List ℕ) → steps_at m key ≡ copy_steps key 0 rs

-- the rows are in order, and the index has the copies among them
pub record IsIndexOf (rs : List Record) (m : Index) : Type 0 where
  pub order : rises rs ≡ true
  pub copies : AreCopiesOf rs m

-- these are the steps of the rows xs, with the numbers that they have among rs
abbrev pub AreStepsOf : List Record → List Step → List Record → Type 0
AreStepsOf rs [] [] = ⊤
AreStepsOf rs [] (x ∷ xs) = ⊥
AreStepsOf rs (s ∷ ss) [] = ⊥
AreStepsOf rs (s ∷ ss) (x ∷ xs) = (slice_get rs s.row ≡ Some x) × AreStepsOf rs ss xs
