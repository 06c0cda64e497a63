use Rattle.std.proofs.Common.{ap, ◌∙◌}
use Rattle.std.proofs.lemmas.Result.{IfOk-weaker}
use Rattle.cp_model.specs.Past.{tree_of}
use Rattle.cp_workspace.proofs.Sharing.{or_tree, turned-shown_for}
use Rattle.cp_workspace.proofs.workspace.Workspace.show_for.Goals as goal

pub returns-in-Some : goal.returns-in-Some
returns-in-Some g c =
    let view = g.R.TreeRep.contents in
    IfOk-weaker c.show_of.result _ _
    (λ r h. λ terms s z.
    turned-shown_for view g.S.TreeRep.contents terms c.args.self.now c.args.curators.now s z c.args.name.now c.requires.workspace.desks.0 c.args.place r (view c.in-Some.tree.now)
    (ap (λ w. or_tree w (tree_of z.db.state.tree)) (c.in-Some.ensures z.db.state.sources z.desks.desks z.desks.stands)) (h z.db.state z.db.holds))
    c.show_of.ensures

pub returns-in-None : goal.returns-in-None
returns-in-None g c =
    let view = g.R.TreeRep.contents in
    IfOk-weaker c.show_of-in-None.result _ _
    (λ r h. λ terms s z.
    turned-shown_for view g.S.TreeRep.contents terms c.args.self.now c.args.curators.now s z c.args.name.now c.requires.workspace.desks.0 c.args.place r (view c.tree.result.now)
    (c.tree.ensures z.db.state z.db.holds ∙ ap (λ w. or_tree w (tree_of z.db.state.tree)) (c.in-None.ensures z.db.state.sources z.desks.desks z.desks.stands)) (h z.db.state z.db.holds))
    c.show_of-in-None.ensures
