use Rattle.std.proofs.Common.{ap, sym, ◌∙◌}
use Rattle.std.proofs.lemmas.Result.{IfOk-weaker}
use Rattle.cp_workspace.specs.Workspaces.{shown_reply}
use Rattle.cp_program.proofs.Versioned.{tree-kept}
use Rattle.cp_program.proofs.version.show_at.Goals as goal

pub returns : goal.returns
returns g c = λ right h items z k is.
    let t = g.R.TreeRep.contents c.in_ok-tree.tree in
    let same = tree-kept right h items c.args.kept k c.args.tid z is c.requires.there t c.in_ok-tree.ensures in
    IfOk-weaker c.shown.result _ _ (λ y e. e ∙ ap (shown_reply c.args.place) (sym same)) c.shown.ensures
