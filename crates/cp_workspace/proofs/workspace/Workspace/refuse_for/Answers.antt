use Rattle.std.proofs.Common.{refl, arith}
use Rattle.cp_workspace.proofs.Sharing.{over-at, workspace-shared, turned-spoiled}
use Rattle.cp_workspace.proofs.workspace.Workspace.refuse_for.Goals as goal

pub spoil-requires : goal.spoil-requires
spoil-requires g c =
    let h = c.requires.workspace.stands in
    let same = c.now.ensures h.0 h.1 in
    let few = h.1.committed.few in
    omega (arith, same, few)

pub returns-in-Ok-clause-turned : goal.returns-in-Ok-clause-turned
returns-in-Ok-clause-turned g c = λ terms s z.
    rw (c.refused.ensures)
    (turned-spoiled g.R.TreeRep.contents g.S.TreeRep.contents terms c.args.self.now c.args.curators.now s z c.args.name.now c.requires.workspace.desks.0 c.spoil.new.self c.args.why
    (z.db.state.sources) (g.R.TreeRep.contents c.tree.result.now) c.kind.result c.now.result
    refl (c.tree.ensures z.db.state z.db.holds) (c.kind.ensures z.db.state z.db.holds) (c.now.ensures z.db.state z.db.holds)
    (λ all stands. c.in-Ok.ensures.ok z.db.state.sources all stands))

pub returns-in-Ok-clause-stays : goal.returns-in-Ok-clause-stays
returns-in-Ok-clause-stays g c =
    workspace-shared g.R.TreeRep.contents g.S.TreeRep.contents c.args.self.now c.args.curators.now c.spoil.new.self
    (λ s z. over-at g.R.TreeRep.contents c.args.curators.now c.spoil.new.self s s.sources (g.R.TreeRep.contents c.tree.result.now) c.kind.result c.now.result
    refl (c.tree.ensures s z) (c.kind.ensures s z) (c.now.ensures s z) (c.spoil.ensures.over s.sources))
    c.requires.workspace

pub returns-in-Err-clause-stays : goal.returns-in-Err-clause-stays
returns-in-Err-clause-stays g c =
    workspace-shared g.R.TreeRep.contents g.S.TreeRep.contents c.args.self.now c.args.curators.now c.spoil.new.self
    (λ s z. over-at g.R.TreeRep.contents c.args.curators.now c.spoil.new.self s s.sources (g.R.TreeRep.contents c.tree.result.now) c.kind.result c.now.result
    refl (c.tree.ensures s z) (c.kind.ensures s z) (c.now.ensures s z) (c.spoil.ensures.over s.sources))
    c.requires.workspace
