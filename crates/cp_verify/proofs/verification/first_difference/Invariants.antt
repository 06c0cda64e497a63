use Rattle.cp_verify.proofs.Comparing.{AgreeSoFar}
use Rattle.cp_verify.proofs.verification.first_difference.Given as goal

abbrev pub invariant-loop-n : goal.invariant-loop-n
invariant-loop-n l = AgreeSoFar l.fn.stored l.fn.expected l.n l.ours l.theirs
