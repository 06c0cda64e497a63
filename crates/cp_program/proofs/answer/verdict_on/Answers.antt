use Rattle.cp_program.proofs.Answered.{answered-verdict}
use Rattle.cp_program.proofs.answer.verdict_on.Goals as goal

pub returns-clause-answered : goal.returns-clause-answered
returns-clause-answered g c = λ known. answered-verdict (g.D.Disk.known c.args.disk.now) c.in_ok-verdict.verdict (c.in_ok-verdict.ensures.verified known)
