use Rattle.std.proofs.Common.{inl, refl, ap, subst, ◌∙◌}
use Rattle.cp_disk.proofs.Composing.{still}
use Rattle.cp_interpreter.proofs.Opened.{opened-leaves, opened-result, rests-leave}
use Rattle.cp_db.specs.FileVersions.{file_version, HasVersionOrNewest, LeavesFiles}
use Rattle.cp_db.proofs.FileVersions.{leaves-after, leaves-rested}
use Rattle.cp_program.proofs.FileVersions.{on-err, on-err-then}
use Rattle.cp_program.proofs.store.open_db.Goals as goal

pub returns-clause-opened : goal.returns-clause-opened
returns-clause-opened g c = λ known.
    opened-result g.R.TreeRep.contents g.S.TreeRep.contents (g.D.Disk.known c.args.disk.now) (g.D.Disk.known c.open_on.new.disk) (g.D.Disk.known c.migrate.new.disk)
    c.in_ok-db.db c.migrate.result (still c.in_ok-db.ensures.cause.same known) (c.in_ok-db.ensures.opened known) (c.open_on.ensures.rests known) (g.met.D.Disk.leaves_content c.open_on.new.disk (still c.in_ok-db.ensures.cause.same known)) c.migrate.ensures.migrated c.migrate.ensures.kinds

pub returns-clause-leaves : goal.returns-clause-leaves
returns-clause-leaves g c = λ known.
    opened-leaves g.R.TreeRep.contents g.S.TreeRep.contents (g.D.Disk.known c.args.disk.now) (g.D.Disk.known c.open_on.new.disk) (g.D.Disk.known c.migrate.new.disk)
    c.in_ok-db.db c.migrate.result (still c.in_ok-db.ensures.cause.same known) (c.in_ok-db.ensures.opened known) (c.open_on.ensures.rests known) (g.met.D.Disk.leaves_content c.migrate.new.disk (still c.migrate.ensures.cause.same (still c.in_ok-db.ensures.cause.same known))) c.migrate.ensures.migrated

pub returns-in_err-db-clause-leaves : goal.returns-in_err-db-clause-leaves
returns-in_err-db-clause-leaves g c = λ known h store. rests-leave h (g.D.Disk.known c.args.disk.now) (g.D.Disk.known c.open_on.new.disk) store (c.open_on.ensures.rests known)

pub returns-clause-file : goal.returns-clause-file
returns-clause-file g c = λ known.
    let v = (g.D.Disk.known c.args.disk.now).view in
    let m = (g.D.Disk.known c.open_on.new.disk).view in
    let w = (g.D.Disk.known c.migrate.new.disk).view in
    let rests = c.open_on.ensures.rests known in
    leaves-after (HasVersionOrNewest (file_version v.content)) v m w rests
    (subst (λ n. LeavesFiles (HasVersionOrNewest n) m w) (ap file_version rests.content) (c.migrate.ensures.file (still c.in_ok-db.ensures.cause.same known)))

pub returns-in_err-db-clause-file : goal.returns-in_err-db-clause-file
returns-in_err-db-clause-file g c = λ known. leaves-rested (HasVersionOrNewest _) _ _ (inl refl) (c.open_on.ensures.rests known)

pub returns-clause-kept : goal.returns-clause-kept
returns-clause-kept g c = λ known.
    let rests = c.open_on.ensures.rests known in
    on-err-then c.migrate.result (λ older newest. absurd (older (ap file_version rests.content ∙ newest))) (c.migrate.ensures.older (still c.in_ok-db.ensures.cause.same known))

pub returns-in_err-db-clause-kept : goal.returns-in_err-db-clause-kept
returns-in_err-db-clause-kept g c = λ known. on-err c.from_residual.result (λ newest. c.open_on.ensures.rests known)
