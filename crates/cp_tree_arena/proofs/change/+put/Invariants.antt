use Rattle.std.proofs.Common.{slice_get}
use Rattle.cp_tree_arena.specs.Slots.{sums_in}
use Rattle.cp_tree_arena.proofs.change.+put.Given as goal

abbrev pub decreases-put : goal.decreases-put
decreases-put l = (sums_in (slice_get l.slots.now l.at.number)).nodes
