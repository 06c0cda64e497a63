use Rattle.cp_verify.proofs.Working.{verdict-stays}
use Rattle.cp_verify.proofs.verification.VerifyingWork.pass.Goals as goal

pub returns-clause-done : goal.returns-clause-done
returns-clause-done c = λ first place items i s found stand leads can is. verdict-stays c.args.self.now.verdict first place items s c.args._passed i found leads can is
