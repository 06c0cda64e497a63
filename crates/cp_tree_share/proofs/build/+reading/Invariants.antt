use Rattle.std.proofs.Common.{◌+◌, ◌*◌, length}
use Rattle.cp_tree_share.proofs.Read.{AreReadSoFar}
use Rattle.cp_tree_share.proofs.build.+reading.Given as goal

abbrev pub decreases-read_edges : goal.decreases-read_edges
decreases-read_edges l = 3 * length l.rows.now

abbrev pub decreases-read_edge : goal.decreases-read_edge
decreases-read_edge l = 3 * length l.rows.now + 2

abbrev pub decreases-read_node : goal.decreases-read_node
decreases-read_node l = 3 * length l.rows.now + 1

abbrev pub invariant-read_edges-loop-row : goal.invariant-read_edges-loop-row
invariant-read_edges-loop-row l = AreReadSoFar l.depth l.rows l.fn.entries.items l.entries.items l.left

abbrev pub decreases-read_edges-loop-row : goal.decreases-read_edges-loop-row
decreases-read_edges-loop-row l = length l.left
