use Rattle.std.proofs.Common.{slice_get}
use Rattle.cp_tree_arena.specs.Slots.{sums_in}
use Rattle.cp_tree_arena.proofs.change.+remove.Given as goal

abbrev pub decreases-remove : goal.decreases-remove
decreases-remove l = (sums_in (slice_get l.slots.now l.at.number)).nodes
