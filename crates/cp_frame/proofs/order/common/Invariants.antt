use Rattle.std.proofs.Common.{◌≡◌, ◌+◌, drop}
use Rattle.cp_frame.proofs.Early.{common}
use Rattle.cp_frame.proofs.order.common.Given as goal

abbrev pub invariant-loop-k : goal.invariant-loop-k
invariant-loop-k l = common l.one l.other ≡ l.k + common (drop l.k l.one) (drop l.k l.other)
