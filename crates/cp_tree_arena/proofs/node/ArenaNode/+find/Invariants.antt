use Rattle.std.proofs.Common.{length}
use Rattle.cp_tree_arena.proofs.node.ArenaNode.+find.Given as goal

abbrev pub decreases-find : goal.decreases-find
decreases-find l = length l.place.now
