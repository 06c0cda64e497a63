use Rattle.cp_tree_arena.proofs.Reading.{places_at}
use Rattle.cp_tree_arena.proofs.node.+rows_below.Given as goal

abbrev pub decreases-rows_below : goal.decreases-rows_below
decreases-rows_below l = places_at l.slots.now l.siblings.number
