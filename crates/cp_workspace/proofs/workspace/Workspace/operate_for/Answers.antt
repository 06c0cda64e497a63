use Rattle.std.proofs.Common.{arith}
use Rattle.std.proofs.lemmas.Result.{IfOk-weaker}
use Rattle.cp_operation.specs.Loaded.{sources_in}
use Rattle.cp_workspace.proofs.Sharing.{over-at, workspace-shared, turned-operated}
use Rattle.cp_workspace.proofs.workspace.Workspace.operate_for.Goals as goal

pub apply-applied-requires-clause-now : goal.apply-applied-requires-clause-now
apply-applied-requires-clause-now g c =
    let h = c.requires.workspace.stands in
    let same = c.now.ensures h.0 h.1 in
    let few = h.1.committed.few in
    omega (arith, same, few)

pub returns-clause-turned : goal.returns-clause-turned
returns-clause-turned g c =
    let view = g.R.TreeRep.contents in
    let source_view = g.S.TreeRep.contents in
    IfOk-weaker c.outcome.result _ _
    (λ r e. λ terms s z.
    turned-operated view source_view terms c.args.self.now c.args.curators.now s z c.args.name.now c.requires.workspace.desks.0 c.apply-applied.new.self c.args.op r c.apply-applied.result
    (sources_in source_view c.sources.result.now) (view c.tree.result.now) c.kind.result c.now.result
    (c.sources.ensures z.db.state z.db.holds) (c.tree.ensures z.db.state z.db.holds) (c.kind.ensures z.db.state z.db.holds) (c.now.ensures z.db.state z.db.holds)
    c.apply-applied.ensures.operates e)
    c.outcome.ensures

pub returns-clause-stays : goal.returns-clause-stays
returns-clause-stays g c =
    let view = g.R.TreeRep.contents in
    let source_view = g.S.TreeRep.contents in
    workspace-shared view source_view c.args.self.now c.args.curators.now c.apply-applied.new.self
    (λ s z. over-at view c.args.curators.now c.apply-applied.new.self s (sources_in source_view c.sources.result.now) (view c.tree.result.now) c.kind.result c.now.result
    (c.sources.ensures s z) (c.tree.ensures s z) (c.kind.ensures s z) (c.now.ensures s z) c.apply-applied.ensures.over)
    c.requires.workspace
