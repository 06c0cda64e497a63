use Rattle.cp_tree.proofs.Found.{reach_weight}
use Rattle.cp_tree_share.proofs.tree.ShareTreeTreeRep.weight.Goals as goal

pub returns : goal.returns
returns c = reach_weight _ _ c.reach.ensures
