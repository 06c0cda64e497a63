use Rattle.std.proofs.Common.{Err, ap, subst}
use Rattle.std.proofs.lemmas.Result.{err_from_is_err_and}
use Rattle.cp_disk.proofs.Composing.{still}
use Rattle.cp_workspace.specs.Files.{known_files}
use Rattle.cp_interpreter.proofs.LoadedAlone.{loaded-not, loaded-said, loaded-stopped}
use Rattle.cp_db.proofs.FileVersions.{version-rested, version-then}
use Rattle.cp_program.proofs.load.reply_to_load.Goals as goal

pub returns-in_ok-reply-in-Ok-clause-loaded : goal.returns-in_ok-reply-in-Ok-clause-loaded
returns-in_ok-reply-in-Ok-clause-loaded g c = λ k.
    loaded-said g.R.TreeRep.contents g.S.TreeRep.contents c.args.source k
    (known_files g.F.Files c.args.files.now) (known_files g.F.Files c.load-reply.new.files) (g.D.Disk.known c.args.disk.now) (g.D.Disk.known c.open_workspace.new.disk) (g.D.Disk.known c.load-reply.new.disk)
    c.in-Ok.workspace c.load-reply.new.self (still c.in-Ok.ensures.cause.same) c.open_workspace.ensures.rests c.in-Ok.ensures.opened
    c.in_ok-reply-in-Ok.field-0 (c.in_ok-reply-in-Ok.ensures.turned k) (λ terms s z. c.in_ok-reply-in-Ok.ensures.spent terms s z k)

pub returns-in-Err-clause-loaded : goal.returns-in-Err-clause-loaded
returns-in-Err-clause-loaded g c = λ k.
    let f = known_files g.F.Files c.args.files.now in
    let v = g.D.Disk.known c.args.disk.now in
    let m = g.D.Disk.known c.open_workspace.new.disk in
    loaded-not g.R.TreeRep.contents g.S.TreeRep.contents c.args.source k f f v m m c.in-Err.stop c.in-Err.ensures.kinds c.open_workspace.ensures.rests c.in-Err.ensures.opened

pub returns-in_err-reply-in-Ok-clause-loaded : goal.returns-in_err-reply-in-Ok-clause-loaded
returns-in_err-reply-in-Ok-clause-loaded g c = λ k.
    let view = g.R.TreeRep.contents in
    let source_view = g.S.TreeRep.contents in
    let f = known_files g.F.Files c.args.files.now in
    let h = known_files g.F.Files c.load-reply.new.files in
    let v = g.D.Disk.known c.args.disk.now in
    let m = g.D.Disk.known c.open_workspace.new.disk in
    let w = g.D.Disk.known c.load-reply.new.disk in
    let met = c.in_err-reply-in-Ok.ensures in
    let e = c.in_err-reply-in-Ok.field-0.0 in
    let p = err_from_is_err_and c.from_residual.result c.from_residual.ensures.1 in
    rw p.1 (loaded-stopped view source_view c.args.source k f h v m w c.in-Ok.workspace c.load-reply.new.self (still c.in-Ok.ensures.cause.same) c.open_workspace.ensures.rests c.in-Ok.ensures.opened
    e p.0 p.2 (met.turned k) (λ terms s z. met.spent terms s z k) (λ is z image. subst (λ d. (g.D.Disk.known d).view.images z) (met.untouched (ap (λ y. Err y) is)) image) (λ is. met.kinds (ap (λ y. Err y) is)))

pub returns-in_ok-reply-in-Ok-clause-file : goal.returns-in_ok-reply-in-Ok-clause-file
returns-in_ok-reply-in-Ok-clause-file g c = λ known.
    version-then _ _ _ (version-rested _ _ (c.open_workspace.ensures.rests known)) (c.load-reply.ensures.file (still c.in-Ok.ensures.cause.same known))

pub returns-in-Err-clause-file : goal.returns-in-Err-clause-file
returns-in-Err-clause-file g c = λ known. version-rested _ _ (c.open_workspace.ensures.rests known)

pub returns-in_err-reply-in-Ok-clause-file : goal.returns-in_err-reply-in-Ok-clause-file
returns-in_err-reply-in-Ok-clause-file g c = λ known.
    version-then _ _ _ (version-rested _ _ (c.open_workspace.ensures.rests known)) (c.load-reply.ensures.file (still c.in-Ok.ensures.cause.same known))
