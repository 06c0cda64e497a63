use Rattle.std.proofs.Common.{refl, sym, ◌∙◌, ap, subst, Err}
use Rattle.std.proofs.lemmas.Option.{none-some}
use Rattle.std.proofs.lemmas.Result.{err_from_is_err_and}
use Rattle.cp_db.specs.Writing.{HasLoaded}
use Rattle.cp_workspace.specs.declared.fault.WorkspaceFault.TheVariants as failed
use Rattle.cp_workspace.specs.Workspaces.{of_nobody}
use Rattle.cp_workspace.proofs.Standing.{turns-failed-still, workspace-added, usable-shut}
use Rattle.cp_workspace.proofs.Loading.{none-in-the-way, turns-loaded, turns-no_room, turns-unloaded, kept-unspent, large-not-disk, large-not-memory, false-not-true}
use Rattle.cp_workspace.proofs.workspace.Workspace.keep_source.Goals as goal

pub returns-in_err-loaded-clause-turned : goal.returns-in_err-loaded-clause-turned
returns-in_err-loaded-clause-turned g c = λ terms s z.
    let p = err_from_is_err_and c.from_residual.result c.from_residual.ensures.1 in
    turns-failed-still g.R.TreeRep.contents g.S.TreeRep.contents of_nobody terms _ s s.supply c.args.self.now c.args.self.now (g.D.Disk.known c.args.disk.now) c.from_residual.result (p.0, p.1)

pub load-requires-clause-source : goal.load-requires-clause-source
load-requires-clause-source g c = record {
  name = c.as_str-text.ensures.name;
  other = c.requires.other;
  tree = g.met.S.TreeRep.is_tree c.args.tree;
  places = c.requires.fits;
}

pub unreachable-requires : goal.unreachable-requires
unreachable-requires g c =
    let view = g.R.TreeRep.contents in
    let source_view = g.S.TreeRep.contents in
    let h = c.requires.usable.workspace.stands in
    let none = none-in-the-way view source_view c.args.self.now c.args.name c.requires.may h.0 h.1 in
    let told = subst (λ e. HasLoaded view source_view c.args.self.now.db h.0 c.args.name (source_view c.args.tree) c.load.new.self (Err e)) c.in-Err-SourceThere.field-0-is (c.in-Err-SourceThere.ensures.loaded h.0 h.1) in
    none-some _ (sym none ∙ told.0)

pub unreachable-requires-in-Err-TooManySources : goal.unreachable-requires-in-Err-TooManySources
unreachable-requires-in-Err-TooManySources g c =
    let view = g.R.TreeRep.contents in
    let source_view = g.S.TreeRep.contents in
    let h = c.requires.usable.workspace.stands in
    let none = none-in-the-way view source_view c.args.self.now c.args.name c.requires.may h.0 h.1 in
    let told = subst (λ e. HasLoaded view source_view c.args.self.now.db h.0 c.args.name (source_view c.args.tree) c.load.new.self (Err e)) c.in-Err-TooManySources.field-0-is (c.in-Err-TooManySources.ensures.loaded h.0 h.1) in
    none-some _ (sym none ∙ told.0)

pub returns-in-Ok-clause-turned : goal.returns-in-Ok-clause-turned
returns-in-Ok-clause-turned g c = λ terms s z.
    turns-loaded g.R.TreeRep.contents g.S.TreeRep.contents g.D.Disk terms c.args.self.now (record c.args.self.now { db = c.load.new.self }) s z c.args.disk.now c.load.new.disk c.args.name (g.S.TreeRep.contents c.args.tree) c.requires.may.closed c.requires.alone c.requires.alone
    c.in_ok-loaded.loaded c.count-nodes.result c.in_ok-loaded.ensures.cases c.count-nodes.ensures refl refl
    (c.in-Ok.ensures.loaded z.db.state z.db.holds)
    (λ known held. c.in-Ok.ensures.kept known s.history z.db held)
    (λ known held. c.load.ensures.crash known s.history z.db held)

pub returns-in-Ok-clause-stays : goal.returns-in-Ok-clause-stays
returns-in-Ok-clause-stays g c =
    let h = c.requires.usable.workspace.stands in
    record {
      workspace = workspace-added g.R.TreeRep.contents g.S.TreeRep.contents c.args.self.now (record c.args.self.now { db = c.load.new.self }) c.requires.may.closed c.requires.usable.workspace c.requires.alone
          (_, (c.in-Ok.ensures.loaded h.0 h.1).2.holds) (kept-unspent c.load.new.self.spent tt c.in-Ok.ensures.spent.0);
      ready = c.in-Ok.ensures.ready;
    }

pub returns-in-Err-TooLarge-clause-turned : goal.returns-in-Err-TooLarge-clause-turned
returns-in-Err-TooLarge-clause-turned g c = λ terms s z.
    let view = g.R.TreeRep.contents in
    let source_view = g.S.TreeRep.contents in
    let refused = subst (λ e. HasLoaded view source_view c.args.self.now.db z.db.state c.args.name (source_view c.args.tree) c.load.new.self (Err e)) c.in-Err-TooLarge.field-0-is (c.in-Err-TooLarge.ensures.loaded z.db.state z.db.holds) in
    rw (c.refused_load.ensures)
    (turns-no_room view source_view g.D.Disk terms c.args.self.now (record c.args.self.now { db = c.load.new.self }) s z c.args.disk.now c.load.new.disk c.args.name (source_view c.args.tree) c.requires.may.closed c.requires.alone c.requires.alone
    (c.in-Err-TooLarge.ensures.unchanged false-not-true (large-not-disk c.in-Err-TooLarge.field-0 c.in-Err-TooLarge.field-0-is) (large-not-memory c.in-Err-TooLarge.field-0 c.in-Err-TooLarge.field-0-is)) (ap (λ b. record c.args.self.now { db = b }) refused.2) refused.1)

pub returns-in-Err-TooLarge-clause-stays : goal.returns-in-Err-TooLarge-clause-stays
returns-in-Err-TooLarge-clause-stays g c =
    let view = g.R.TreeRep.contents in
    let source_view = g.S.TreeRep.contents in
    let h = c.requires.usable.workspace.stands in
    let refused = subst (λ e. HasLoaded view source_view c.args.self.now.db h.0 c.args.name (source_view c.args.tree) c.load.new.self (Err e)) c.in-Err-TooLarge.field-0-is (c.in-Err-TooLarge.ensures.loaded h.0 h.1) in
    usable-shut view source_view c.args.self.now (record c.args.self.now { db = c.load.new.self }) c.requires.may.closed g.D.Disk c.args.disk.now c.load.new.disk
    (c.in-Err-TooLarge.ensures.unchanged false-not-true (large-not-disk c.in-Err-TooLarge.field-0 c.in-Err-TooLarge.field-0-is) (large-not-memory c.in-Err-TooLarge.field-0 c.in-Err-TooLarge.field-0-is)) c.requires.usable refused.2 c.requires.alone

pub returns-in-Err-Disk-clause-turned : goal.returns-in-Err-Disk-clause-turned
returns-in-Err-Disk-clause-turned g c = λ terms s z.
    turns-unloaded g.R.TreeRep.contents g.S.TreeRep.contents g.D.Disk terms c.args.self.now (record c.args.self.now { db = c.load.new.self }) s z c.args.disk.now c.load.new.disk c.args.name (g.S.TreeRep.contents c.args.tree) c.requires.may.closed c.requires.alone c.requires.alone
    (Err failed.Disk) (failed.Disk, refl) (λ known held. c.load.ensures.crash known s.history z.db held) c.load.ensures.room

pub returns-clause-turned : goal.returns-clause-turned
returns-clause-turned g c = λ terms s z.
    turns-unloaded g.R.TreeRep.contents g.S.TreeRep.contents g.D.Disk terms c.args.self.now (record c.args.self.now { db = c.load.new.self }) s z c.args.disk.now c.load.new.disk c.args.name (g.S.TreeRep.contents c.args.tree) c.requires.may.closed c.requires.alone c.requires.alone
    (Err failed.Memory) (failed.Memory, refl) (λ known held. c.load.ensures.crash known s.history z.db held) c.load.ensures.room
