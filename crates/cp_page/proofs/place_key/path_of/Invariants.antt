use Rattle.std.proofs.Common.{◌≡◌, ◌++◌, length}
use Rattle.std.specs.List.{flat_map, AllByRecursion}
use Rattle.cp_record.specs.Kept.{IsLabel}
use Rattle.cp_page.specs.PlaceKeys.{label_key}
use Rattle.cp_page.proofs.place_key.path_of.Given as goal

abbrev pub invariant-loop-path : goal.invariant-loop-path
invariant-loop-path l = record {
  is : l.bytes ≡ flat_map label_key l.path ++ l.rest;
  labels : AllByRecursion IsLabel l.path;
}

abbrev pub decreases-loop-path : goal.decreases-loop-path
decreases-loop-path l = length l.rest
