use Rattle.std.proofs.lemmas.Result.{IfOk-weaker}
use Rattle.cp_db.specs.Archives.{IsWithinTids}
use Rattle.cp_db.proofs.Archiving.{archive-found}
use Rattle.cp_db.proofs.archive.archive_of.Goals as goal

pub returns-clause-archived : goal.returns-clause-archived
returns-clause-archived g c = λ known. archive-found (g.D.Disk.known c.args.disk.now).view.content c.work_over.result (c.work_over.ensures.found known)

pub returns-clause-tids : goal.returns-clause-tids
returns-clause-tids g c = IfOk-weaker c.work_over.result _ IsWithinTids (λ kept fits. record { last = fits.1; limit = fits.3; few = fits.4.few; next = fits.4.next }) c.work_over.ensures.fits
