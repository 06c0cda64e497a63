use Rattle.std.proofs.Common.{◌≡◌, ◌≤◌, ◌-◌, T, max, length, drop}
use Rattle.cp_tree.specs.Branch.{child_rows}
use Rattle.cp_tree.specs.Rows.{deepest}
use Rattle.cp_tree_rows.specs.Forest.{edges, nests}
use Rattle.cp_tree.specs.Sums.{largest}
use Rattle.cp_tree_rows.proofs.measure.+extent_of.Given as goal

abbrev pub invariant-loop-at : goal.invariant-loop-at
invariant-loop-at l = record {
  within : l.at ≤ length l.rows;
  back : T (nests (drop l.at l.rows));
  depth : max l.depth (deepest (child_rows (edges (drop l.at l.rows)))) ≡ deepest (child_rows (edges l.rows));
  size : max l.size (largest (child_rows (edges (drop l.at l.rows)))) ≡ largest (child_rows (edges l.rows));
}

abbrev pub decreases-loop-at : goal.decreases-loop-at
decreases-loop-at l = length l.rows - l.at

abbrev pub decreases-extent_of : goal.decreases-extent_of
decreases-extent_of l = length l.rows.now
