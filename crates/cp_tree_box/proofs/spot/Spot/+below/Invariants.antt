use Rattle.std.proofs.Common.{length}
use Rattle.cp_tree_box.proofs.spot.Spot.+below.Given as goal

abbrev pub decreases-below : goal.decreases-below
decreases-below l = length l.labels.now
