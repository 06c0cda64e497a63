use Rattle.cp_tree_arena.proofs.Reading.{places_at}
use Rattle.cp_tree_arena.proofs.siblings.+labels_into.Given as goal

abbrev pub decreases-labels_into : goal.decreases-labels_into
decreases-labels_into l = places_at l.slots.now l.at.number
