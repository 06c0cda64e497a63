use Rattle.cp_tree_share.proofs.forest.Forest.+of_last.Given as goal

abbrev pub decreases-of_last : goal.decreases-of_last
decreases-of_last l = l.count
