use Rattle.cp_path.specs.declared.limits.TheConstants.{NAME_MAX, LABEL_MAX}
use Rattle.std.proofs.Common.{◌+◌, ◌*◌, ◌≤◌, ◌≡◌, length, take, sum_by}
use Rattle.cp_path.proofs.loc.Loc.size.Given as goal

abbrev pub invariant-loop-label : goal.invariant-loop-label
invariant-loop-label l = record {
  total_is : l.total ≡ length l.fn.self.db + sum_by (λ a. length a + 1) (take l.label-index l.label-items);
  name_is_short : length l.fn.self.db ≤ NAME_MAX;
  bound : l.total ≤ NAME_MAX + (LABEL_MAX + 1) * l.label-index;
}
