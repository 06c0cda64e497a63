use Rattle.cp_db.proofs.Logging.{lines_found}
use Rattle.cp_db.proofs.log.log_of.Goals as goal

pub returns-clause-logged : goal.returns-clause-logged
returns-clause-logged g c = λ known. lines_found (g.D.Disk.known c.args.disk.now).view.content c.in_ok-work.work (c.in_ok-work.ensures.found known)
