use Rattle.std.proofs.Common.{◌≡◌, ◌++◌, length, map, take, flat_map}
use Rattle.std.specs.Str.{IsUtf8}
use Rattle.std.specs.List.{AllByRecursion}
use Rattle.cp_path.proofs.room.push_labels.Given as goal

abbrev pub invariant-loop-label : goal.invariant-loop-label
invariant-loop-label l = record {
  lengths : l.lengths.items ≡ l.initial.lengths.items ++ map length (take l.label-index l.labels);
  bytes : l.bytes.items ≡ l.initial.bytes.items ++ flat_map (λ a. a) (take l.label-index l.labels);
  texts : AllByRecursion IsUtf8 (take l.label-index l.labels);
}
