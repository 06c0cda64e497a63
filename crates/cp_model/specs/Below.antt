-- What the rows of a store tell of the places below one.
use Rattle.std.specs.Prelude.{ℕ, ◌&&◌, Bool, true, false, List, [], ◌∷◌, map, if◌then◌else◌}
use Rattle.std.specs.List.{list_any}
use Rattle.std.specs.declared.option.Option.{Option}
use Rattle.std.specs.declared.option.Option.TheVariants.{None, Some}
use Rattle.cp_path.specs.declared.loc.Loc.{Loc}
use Rattle.cp_model.specs.Place.{Label, Path, label_eq, strip, in_target}
use Rattle.cp_model.specs.Leaps.{losts}
use Rattle.cp_model.specs.Records.{loses}
use Rattle.cp_model.specs.Answers.{tid_of}
use Rattle.cp_model.specs.declared.record.Record.{Record}

-- the steps after low up to high of which a row says that a child of the place is gone, rising; no row is of a place of a source
unfoldable pub losses_at : List Record → ℕ → ℕ → Loc → List ℕ
losses_at rs low high q = if in_target q then map tid_of (losts (loses rs) low high q.path) else []

-- there is a further label, which is the one that is given, if one is
abbrev pub goes_on : Option Label → Option Path → Bool
goes_on l None = false
goes_on l (Some []) = false
goes_on None (Some (a ∷ s)) = true
goes_on (Some b) (Some (a ∷ s)) = label_eq b a

-- r is below p, and where a label is given, at or below the place at it below p
abbrev pub is_below : Option Label → Path → Path → Bool
is_below l p r = goes_on l (strip p r)

-- some row is of a place below this one, by the label that is given, if one is
unfoldable pub tells_below : List Record → Option Label → Loc → Bool
tells_below rs l q = in_target q && list_any (λ r. is_below l q.path r.loc.path) rs
