use Rattle.std.proofs.Common.{◌+◌, ◌*◌, length}
use Rattle.cp_tree_share.proofs.forest.+put.Given as goal

abbrev pub decreases-ShareNode::put : goal.decreases-ShareNode::put
decreases-ShareNode::put l = 2 * length l.place.now

abbrev pub decreases-Entry::put : goal.decreases-Entry::put
decreases-Entry::put l = 2 * length l.place.now + 1
