use Rattle.std.proofs.Common.{length}
use Rattle.cp_tree_rows.proofs.change.+open.Given as goal

abbrev pub decreases-open : goal.decreases-open
decreases-open l = length l.place.now
