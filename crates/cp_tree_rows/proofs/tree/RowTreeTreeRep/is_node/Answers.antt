use Rattle.std.proofs.Common.{◌∙◌, ap}
use Rattle.cp_model.specs.Tree.{is_node}
use Rattle.cp_tree_rows.proofs.Wrapping.{root_of}
use Rattle.cp_tree_rows.proofs.tree.RowTreeTreeRep.is_node.Goals as goal

pub returns-in-Some : goal.returns-in-Some
returns-in-Some c = (let n = c.in-Some.part in c.is_node.ensures ∙ ap is_node (root_of n.item.now n.rows.now _ _ c.args.place.now _ c.in-Some.ensures.there c.whole.ensures.tree c.labels.ensures.labels))
