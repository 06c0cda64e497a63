use Rattle.std.proofs.Common.{refl, subst, sym}
use Rattle.cp_db.specs.Databases.{IsDatabase}
use Rattle.cp_reply.specs.Session.{session_after_statements}
use Rattle.cp_workspace.specs.Texts.{setting}
use Rattle.cp_workspace.specs.Workspaces.{Stands}
use Rattle.cp_scratch.specs.Workloads.{workload_session, workload_terms}
use Rattle.cp_scratch.proofs.Running.{comes-to}
use Rattle.cp_scratch.proofs.workload.run_workload.Goals as goal

pub returns-in-Ok : goal.returns-in-Ok
returns-in-Ok g c =
    let view = g.R.TreeRep.contents in
    let source_view = g.S.TreeRep.contents in
    let terms = workload_terms c.args.kind in
    comes-to view source_view c.args.kind c.args.seed c.args.count c.run_script.new.workspace c.into_db-db.result c.summary_in-reply.result c.into_db-db.ensures
    (subst (λ all. Stands view source_view terms c.run_script.new.workspace (session_after_statements (setting terms) (workload_session c.args.kind) all)) c.new-script.ensures
    (c.in-Ok.ensures.ran terms (workload_session c.args.kind) c.in_ok-workspace.ensures.stands refl))
    c.summary_in-reply.ensures.summary

pub summary_in-reply-requires : goal.summary_in-reply-requires
summary_in-reply-requires g c = record {
  stands = subst (IsDatabase g.R.TreeRep.contents g.S.TreeRep.contents) (sym c.into_db-db.ensures) c.in-Ok.ensures.stays.stands;
}
