use Rattle.std.proofs.Common.{take}
use Rattle.std.specs.List.{AllByRecursion}
use Rattle.cp_archive.specs.Touching.{IsIdle}
use Rattle.cp_archive.proofs.idle.are_idle.Given as goal

-- the first operations change nothing
abbrev pub invariant-loop-op : goal.invariant-loop-op
invariant-loop-op g l = AllByRecursion (IsIdle (g.R.TreeRep.contents l.tree)) (take l.op-index l.ops)
