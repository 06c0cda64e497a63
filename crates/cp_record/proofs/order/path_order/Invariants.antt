use Rattle.std.proofs.Common.{length}
use Rattle.cp_record.proofs.Ordered.{SameOrder}
use Rattle.cp_record.proofs.order.path_order.Given as goal

abbrev pub invariant-loop-left : goal.invariant-loop-left
invariant-loop-left l = SameOrder l.one l.other l.left l.right

abbrev pub decreases-loop-left : goal.decreases-loop-left
decreases-loop-left l = length l.left
