use Rattle.cp_program.proofs.Answered.{answered-log}
use Rattle.cp_program.proofs.answer.commits_in.Goals as goal

pub returns-clause-answered : goal.returns-clause-answered
returns-clause-answered g c = λ known. answered-log (g.D.Disk.known c.args.disk.now) c.in_ok-commits.commits (c.in_ok-commits.ensures.logged known)
