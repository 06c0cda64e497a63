use Rattle.cp_disk.proofs.Composing.{still}
use Rattle.cp_journal.specs.Frames.{entry}
use Rattle.cp_db.proofs.FileVersions.{version-added}
use Rattle.cp_db.proofs.database.Db.append.Goals as goal

pub returns-in_err-append-clause-file : goal.returns-in_err-append-clause-file
returns-in_err-append-clause-file g c = λ known.
    version-added c.args.self.now.journal.next (entry c.args.body.now) _ _ (c.requires.ready known).0 (c.append.ensures.crash known)
    (g.met.D.Disk.leaves_content c.append.new.disk (still c.append.ensures.cause.same known))

pub returns-clause-file : goal.returns-clause-file
returns-clause-file g c = λ known.
    version-added c.args.self.now.journal.next (entry c.args.body.now) _ _ (c.requires.ready known).0 (c.append.ensures.crash known)
    (g.met.D.Disk.leaves_content c.append.new.disk (still c.append.ensures.cause.same known))
