use Rattle.cp_tree_arena.proofs.Reading.{places_at}
use Rattle.cp_tree_arena.proofs.siblings.+find.Given as goal

abbrev pub decreases-find : goal.decreases-find
decreases-find l = places_at l.slots.now l.at.number
