use Rattle.cp_verify.proofs.Found.{verdict_found}
use Rattle.cp_verify.proofs.verification.verify.Goals as goal

pub returns-clause-verified : goal.returns-clause-verified
returns-clause-verified g c = λ known. verdict_found (g.D.Disk.known c.args.disk.now).view.content c.in_ok-work.work (c.in_ok-work.ensures.found known)
