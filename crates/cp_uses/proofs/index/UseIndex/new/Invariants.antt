use Rattle.std.proofs.Common.{take}
use Rattle.cp_uses.specs.Index.{AreCopiesOf}
use Rattle.cp_uses.proofs.index.UseIndex.new.Given as goal

abbrev pub invariant-loop-number : goal.invariant-loop-number
invariant-loop-number l = AreCopiesOf (take l.number l.rows) l.copies
