use Rattle.cp_model.specs.Past.{tree_of}
use Rattle.cp_workspace.proofs.Sharing.{workspace-shared, turned-given_up}
use Rattle.cp_workspace.proofs.workspace.Workspace.abort_for.Goals as goal

pub returns-clause-turned : goal.returns-clause-turned
returns-clause-turned g c = λ terms s z.
    turned-given_up g.R.TreeRep.contents g.S.TreeRep.contents terms c.args.self.now c.args.curators.now s z c.args.name.now c.requires.workspace.desks.0 c.abort.new.self c.abort.result
    (c.abort.ensures.count z.db.state.sources z.desks.desks z.desks.stands) (c.abort.ensures.closed z.db.state.sources z.desks.desks z.desks.stands)

pub returns-clause-stays : goal.returns-clause-stays
returns-clause-stays g c =
    workspace-shared g.R.TreeRep.contents g.S.TreeRep.contents c.args.self.now c.args.curators.now c.abort.new.self (λ s z. c.abort.ensures.over s.sources (tree_of s.tree) s.kind s.now) c.requires.workspace
