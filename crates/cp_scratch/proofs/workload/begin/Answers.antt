use Rattle.std.proofs.Common.{◌∙◌, false, true, sym, ap, subst}
use Rattle.cp_db.specs.Databases as database
use Rattle.cp_reply.specs.Session.{no_supply}
use Rattle.cp_workspace.specs.Workspaces.{EndsAt}
use Rattle.cp_scratch.specs.Sessions.{sure_disk}
use Rattle.cp_scratch.specs.Workloads.{workload_start, workload_terms}
use Rattle.cp_scratch.proofs.workload.begin.Goals as goal

pub new-requires-clause-stands : goal.new-requires-clause-stands
new-requires-clause-stands g c = let z = c.in_ok-db.ensures.stands false in (z.state, z.holds)

pub returns-clause-stands : goal.returns-clause-stands
returns-clause-stands g c =
    let view = g.R.TreeRep.contents in
    let source_view = g.S.TreeRep.contents in
    let h = workload_start c.args.kind in
    let same = sym c.new.ensures.same in
    let z = c.new.ensures.stands h no_supply (c.in_ok-db.ensures.stands true) in
    record {
      db = z.db;
      ends = subst (λ d. EndsAt (workload_terms c.args.kind).ends h (database.end_in d)) same c.in_ok-db.ensures.ends;
      curator = z.curator ∙ c.in_ok-curator.ensures;
      opened = z.opened;
      shared = z.shared;
      desks = z.desks;
    }

pub returns-clause-usable : goal.returns-clause-usable
returns-clause-usable g c = record {
  workspace = c.new.ensures.workspace;
  ready = λ known. subst (λ d. database.IsReady d (sure_disk c.db_with_source.new.disk).view) (sym c.new.ensures.same) c.in_ok-db.ensures.ready;
}

pub returns-clause-stamps : goal.returns-clause-stamps
returns-clause-stamps g c = ap database.version_in c.new.ensures.same ∙ c.in_ok-db.ensures.made.0
