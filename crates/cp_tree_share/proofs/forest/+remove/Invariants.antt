use Rattle.std.proofs.Common.{◌+◌, ◌*◌, length}
use Rattle.cp_tree_share.proofs.forest.+remove.Given as goal

abbrev pub decreases-ShareNode::remove : goal.decreases-ShareNode::remove
decreases-ShareNode::remove l = 2 * length l.place.now

abbrev pub decreases-Entry::remove : goal.decreases-Entry::remove
decreases-Entry::remove l = 2 * length l.place.now + 1
