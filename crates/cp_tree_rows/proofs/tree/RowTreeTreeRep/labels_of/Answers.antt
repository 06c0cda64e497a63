use Rattle.std.proofs.Common.{◌≡◌, subst, IfOk}
use Rattle.cp_tree_rows.proofs.Wrapping.{labels_here}
use Rattle.cp_tree_rows.proofs.tree.RowTreeTreeRep.labels_of.Goals as goal

pub returns : goal.returns
returns c =
    let n = c.part.result in
    subst (λ ls. IfOk c.labels-2.result (λ v. v.items ≡ ls)) (labels_here n.item.now n.last n.rows.now c.part.ensures.part _ c.args.place.now _ c.part.ensures.at c.labels.ensures.labels) c.labels-2.ensures
