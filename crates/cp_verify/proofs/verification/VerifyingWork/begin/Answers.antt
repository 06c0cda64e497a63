use Rattle.cp_verify.proofs.Working.{verdict-begun}
use Rattle.cp_verify.proofs.verification.VerifyingWork.begin.Goals as goal

pub returns-clause-done : goal.returns-clause-done
returns-clause-done g c = λ first place items s is none. verdict-begun first place items s is.begins none
