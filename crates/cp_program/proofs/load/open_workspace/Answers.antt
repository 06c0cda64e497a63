use Rattle.std.proofs.Common.{sym, subst}
use Rattle.cp_disk.proofs.Composing.{still}
use Rattle.cp_db.specs.Databases.{IsReady}
use Rattle.cp_interpreter.proofs.LoadedAlone.{alone-opened}
use Rattle.cp_program.proofs.load.open_workspace.Goals as goal

pub returns-clause-opened : goal.returns-clause-opened
returns-clause-opened g c = λ known.
    alone-opened g.R.TreeRep.contents g.S.TreeRep.contents (g.D.Disk.known c.args.disk.now) (g.D.Disk.known c.open_on.new.disk)
    c.in_ok-db.db c.new.result c.in_ok-curator.curator c.in_ok-curator.ensures c.new.ensures.same
    (c.in_ok-db.ensures.opened known) (c.open_on.ensures.rests known) (g.met.D.Disk.leaves_content c.open_on.new.disk (still c.in_ok-db.ensures.cause.same known)) c.new.ensures.stands

pub returns-clause-usable : goal.returns-clause-usable
returns-clause-usable g c =
    let w = g.D.Disk.known c.open_on.new.disk in
    record { workspace = c.new.ensures.workspace; ready = λ known. subst (λ y. IsReady y w.view) (sym c.new.ensures.same) (c.in_ok-db.ensures.ready known) }
