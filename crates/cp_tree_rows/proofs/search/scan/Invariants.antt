use Rattle.std.proofs.Common.{length, ◌-◌, ◌≤◌, T, take, drop}
use Rattle.cp_tree_rows.specs.Forest.{edges, nests}
use Rattle.cp_tree_rows.specs.Spots.{AllBefore}
use Rattle.cp_tree_rows.proofs.search.scan.Given as goal

abbrev pub invariant-loop-at : goal.invariant-loop-at
invariant-loop-at l = record {
  within : l.at ≤ length l.rows;
  front : T (nests (take l.at l.rows));
  back : T (nests (drop l.at l.rows));
  before : AllBefore l.fn.label (edges (take l.at l.rows));
}

abbrev pub decreases-loop-at : goal.decreases-loop-at
decreases-loop-at l = length l.rows - l.at
