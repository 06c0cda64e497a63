use Rattle.std.proofs.Common.{length}
use Rattle.cp_tree_box.proofs.node.BoxNode.+swap.Given as goal

abbrev pub decreases-swap : goal.decreases-swap
decreases-swap l = length l.place.now
