use Rattle.std.proofs.Common.{refl}
use Rattle.cp_tree_box.proofs.Changes.{reach_from_nothing}
use Rattle.cp_tree_box.proofs.reach.reach_of.Goals as goal

pub returns : goal.returns
returns c = reach_from_nothing c.args.node.now _ _ _ c.root.ensures refl c.reach_subtree.ensures
