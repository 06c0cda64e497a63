-- The set of lost children, seen as a test.
use Rattle.std.specs.Prelude.{Bool, ◌&&◌}
use Rattle.std.specs.List.{list_any}
use Rattle.std.specs.BTreeSet.{BTreeSet}
use Rattle.cp_model.specs.Place.{Path, Label, path_eq, label_eq}
use Rattle.cp_overlay.specs.declared.lost.LostChild.{LostChild}

-- the child is among them
unfoldable pub lost_in : BTreeSet LostChild → Path → Label → Bool
lost_in set q l = list_any (λ c. path_eq q c.parent && label_eq l c.label) set.keys
