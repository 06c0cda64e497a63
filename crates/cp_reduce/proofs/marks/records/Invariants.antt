use Rattle.std.proofs.Common.{◌≡◌, ◌++◌, length}
use Rattle.cp_model.specs.History.{with_tid}
use Rattle.cp_reduce.proofs.marks.records.Given as goal

abbrev pub invariant-loop-row : goal.invariant-loop-row
invariant-loop-row l = l.items.items ++ with_tid l.tid l.marks.entries ≡ with_tid l.tid l.fn.marks.entries

abbrev pub decreases-loop-row : goal.decreases-loop-row
decreases-loop-row l = length l.marks.entries
