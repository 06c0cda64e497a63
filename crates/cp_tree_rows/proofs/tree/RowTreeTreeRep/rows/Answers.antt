use Rattle.cp_tree_rows.proofs.Wrapping.{rows_here}
use Rattle.cp_tree_rows.proofs.tree.RowTreeTreeRep.rows.Goals as goal

pub returns : goal.returns
returns c =
    let n = c.part-part.result in
    rows_here n.item.now n.last n.rows.now c.part-part.ensures.part _ c.args.place.now _ c.part-part.ensures.at c.labels.ensures.labels _ _ _ _ _ c.new-items.ensures.items c.new-at.ensures.items c.deref.ensures.value c.in_ok-list_place.ensures c.in_ok-list_rows.ensures.rows
