use Rattle.cp_tree.proofs.Found.{reach_count}
use Rattle.cp_tree_share.proofs.tree.ShareTreeTreeRep.count.Goals as goal

pub returns : goal.returns
returns c = reach_count _ _ c.reach.ensures
