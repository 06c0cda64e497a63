use Rattle.std.proofs.Common.{length}
use Rattle.cp_archive.proofs.Finding.{AreLeft}
use Rattle.cp_archive.proofs.difference.pass_to.Given as goal

abbrev pub invariant-loop-row : goal.invariant-loop-row
invariant-loop-row l = AreLeft l.path l.rows l.left

abbrev pub decreases-loop-row : goal.decreases-loop-row
decreases-loop-row l = length l.left
