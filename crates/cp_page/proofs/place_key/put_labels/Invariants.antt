use Rattle.std.proofs.Common.{◌≡◌, ◌++◌, take}
use Rattle.std.specs.List.{flat_map}
use Rattle.cp_page.specs.PlaceKeys.{label_key}
use Rattle.cp_page.proofs.place_key.put_labels.Given as goal

abbrev pub invariant-loop-label : goal.invariant-loop-label
invariant-loop-label l = record { bytes : l.out.items ≡ l.initial.out.items ++ flat_map label_key (take l.label-index l.labels) }
