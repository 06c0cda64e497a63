use Rattle.std.proofs.lemmas.Result.{IfOk-weaker}
use Rattle.std.proofs.Common.{ap, ◌∙◌}
use Rattle.cp_workspace.specs.Workspaces.{shown_or_refused, shown_tree}
use Rattle.cp_workspace.proofs.Answering.{turned-shown}
use Rattle.cp_workspace.proofs.workspace.Workspace.show.Goals as goal

pub returns : goal.returns
returns g c =
    IfOk-weaker c.show_of.result _ _
    (λ r h. λ terms s z. turned-shown g.R.TreeRep.contents g.S.TreeRep.contents terms c.args.self.now s z c.args.place r (h z.db.state z.db.holds ∙ ap (λ u. shown_or_refused c.args.place (shown_tree z.db.state u c.args.place)) (c.current_tree.ensures terms s z)))
    c.show_of.ensures
