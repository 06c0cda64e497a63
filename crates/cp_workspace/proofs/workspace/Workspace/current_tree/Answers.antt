use Rattle.std.proofs.Common.{◌∙◌}
use Rattle.cp_workspace.proofs.Answering.{tree-closed, tree-going, tree-failed}
use Rattle.cp_workspace.proofs.workspace.Workspace.current_tree.Goals as goal
use Rattle.cp_workspace.proofs.workspace.Workspace.current_tree.Goals.{in-Some+in_default-state, in_default}

pub returns-in-Going : goal.returns-in-Going
returns-in-Going g c = λ terms s z.
    tree-going g.R.TreeRep.contents g.S.TreeRep.contents terms c.args.self.now s z c.in-Some.transaction c.in-Some.is c.state.result c.state.ensures c.in-Going.field-0 (g.R.TreeRep.contents c.tree.result.now) c.in-Going.is c.tree.ensures.going

pub returns : goal.returns
returns g c = λ terms s z.
    c.tree-2.ensures _ z.db.holds ∙
    elim c.match-self.branch [
      | in-Some+in_default-state w ↦ tree-failed g.R.TreeRep.contents g.S.TreeRep.contents terms c.args.self.now s z w.in-Some.transaction w.in-Some.is w.state.result w.state.ensures (λ j e. w.in_default-state.not-Going j e)
      | in_default w ↦ tree-closed g.R.TreeRep.contents g.S.TreeRep.contents terms c.args.self.now s z w.in_default.is
    ]
