use Rattle.std.proofs.Common.{true, sym, ap, subst, ◌∙◌}
use Rattle.cp_db.specs.Databases.{IsKept, IsReady, version_in}
use Rattle.cp_workspace.specs.Workspaces.{end_now, opened_session}
use Rattle.cp_interpreter.specs.Story.{Committers, terms_from}
use Rattle.cp_interpreter.proofs.Opened.{begun-on, begun-in, goes-in}
use Rattle.cp_program.proofs.store.begin.Goals as goal

pub returns-clause-begun : goal.returns-clause-begun
returns-clause-begun g c = λ known.
    let view = g.R.TreeRep.contents in
    let source_view = g.S.TreeRep.contents in
    let w = g.D.Disk.known c.open_db.new.disk in
    let db = c.in_ok-db.db in
    let who : Committers = record { curator = c.args.curator; shared = c.args.shared } in
    begun-on view source_view who (g.D.Disk.known c.args.disk.now) w db c.new.result (c.in_ok-db.ensures.opened known)
    (λ h supply z k. begun-in view source_view w c.new.result c.workspace_on-workspace.result c.new.ensures.cutter c.new.ensures.workspace (terms_from (end_now h db) who) (opened_session h supply)
    (c.workspace_on-workspace.ensures.stands h supply z)
    (λ told. subst (λ y. IsKept true y h w.view) (sym c.workspace_on-workspace.ensures.same) k))

pub returns-clause-goes_on : goal.returns-clause-goes_on
returns-clause-goes_on g c =
    let view = g.R.TreeRep.contents in
    let source_view = g.S.TreeRep.contents in
    let w = g.D.Disk.known c.open_db.new.disk in (
      goes-in view source_view w c.new.result c.workspace_on-workspace.result c.new.ensures.cutter c.new.ensures.workspace
          (record { workspace = c.workspace_on-workspace.ensures.workspace; ready = λ known. subst (λ y. IsReady y w.view) (sym c.workspace_on-workspace.ensures.same) (c.in_ok-db.ensures.ready known) })
          (ap version_in c.workspace_on-workspace.ensures.same ∙ c.in_ok-db.ensures.usable.2),
      c.new.ensures.refused,
    )
