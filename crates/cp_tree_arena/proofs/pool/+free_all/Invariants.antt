use Rattle.std.proofs.Common.{slice_get}
use Rattle.cp_tree_arena.specs.Slots.{sums_in}
use Rattle.cp_tree_arena.proofs.pool.+free_all.Given as goal

abbrev pub decreases-free_all : goal.decreases-free_all
decreases-free_all l = (sums_in (slice_get l.slots.now l.at.number)).nodes
