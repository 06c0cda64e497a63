use Rattle.cp_tree_rows.proofs.Wrapping.{child_at, no_child_at}
use Rattle.cp_tree_rows.proofs.tree.RowTree.find_below.Goals as goal

pub returns-in-Some-clause-at : goal.returns-in-Some-clause-at
returns-in-Some-clause-at c =
    let n = c.in-Some.part in
    child_at n.item.now n.last n.rows.now c.in-Some.ensures.part _ _ c.args.place.now c.args.label.now c.in-Some.ensures.there c.whole.ensures.tree _ c.find_child.ensures.there

pub returns-in-Some-clause-gone : goal.returns-in-Some-clause-gone
returns-in-Some-clause-gone c =
    let n = c.in-Some.part in
    no_child_at n.item.now n.last n.rows.now c.in-Some.ensures.part _ _ c.args.place.now c.args.label.now c.in-Some.ensures.there c.whole.ensures.tree _ c.find_child.ensures.gone
