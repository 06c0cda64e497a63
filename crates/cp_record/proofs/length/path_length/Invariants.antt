use Rattle.std.proofs.Common.{◌+◌, ◌*◌, ◌≤◌, ◌≡◌, length, take, sum_by}
use Rattle.cp_record.proofs.length.path_length.Given as goal

abbrev pub invariant-loop-label : goal.invariant-loop-label
invariant-loop-label l = record {
  total_is : l.total ≡ 1 + sum_by (λ a. length a + 1) (take l.label-index l.label-items);
  bound : l.total ≤ 1 + 256 * l.label-index;
  few : length l.label-items ≤ 64;
  all : l.label-items ≡ l.fn.path;
}
