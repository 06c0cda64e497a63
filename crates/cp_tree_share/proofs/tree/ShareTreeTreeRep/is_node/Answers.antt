use Rattle.std.proofs.Common.{◌∙◌, ap}
use Rattle.cp_model.specs.Tree.{is_node}
use Rattle.cp_tree.proofs.Answering.{root_of}
use Rattle.cp_tree_share.proofs.tree.ShareTreeTreeRep.is_node.Goals as goal

pub returns-in-Some : goal.returns-in-Some
returns-in-Some c = c.is_node.ensures ∙ ap is_node (root_of _ _ _ _ c.in-Some.ensures.there c.labels.ensures.labels)
