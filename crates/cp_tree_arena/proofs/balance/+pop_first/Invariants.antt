use Rattle.std.proofs.Common.{slice_get}
use Rattle.cp_tree_arena.specs.Slots.{sums_in}
use Rattle.cp_tree_arena.proofs.balance.+pop_first.Given as goal

abbrev pub decreases-pop_first : goal.decreases-pop_first
decreases-pop_first l = (sums_in (slice_get l.slots.now l.at.number)).nodes
