use Rattle.std.proofs.Common.{◌≡◌, ◌++◌, take}
use Rattle.std.specs.List.{flat_map, AllByRecursion}
use Rattle.cp_path.specs.Encoding.{counted_bytes}
use Rattle.cp_record.specs.Kept.{IsLabel}
use Rattle.cp_format.proofs.writing.put_labels.Given as goal

abbrev pub invariant-loop-label : goal.invariant-loop-label
invariant-loop-label l = record {
  bytes : l.out.items ≡ l.initial.out.items ++ flat_map counted_bytes (take l.label-index l.labels);
  labels : AllByRecursion IsLabel (take l.label-index l.labels);
}
