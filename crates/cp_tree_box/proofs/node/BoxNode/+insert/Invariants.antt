use Rattle.std.proofs.Common.{length}
use Rattle.cp_tree_box.proofs.node.BoxNode.+insert.Given as goal

abbrev pub decreases-insert : goal.decreases-insert
decreases-insert l = length l.place.now
