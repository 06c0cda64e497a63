use Rattle.std.proofs.Common.{◌≡◌, ◌++◌, ◌≤◌, ◌-◌, T, map, length, drop}
use Rattle.cp_tree_rows.specs.Forest.{edges, nests}
use Rattle.cp_tree_rows.proofs.list.labels.Given as goal

abbrev pub invariant-loop-at : goal.invariant-loop-at
invariant-loop-at l = record {
  within : l.at ≤ length l.rows;
  back : T (nests (drop l.at l.rows));
  so_far : l.labels.items ++ map (λ e. e.0) (edges (drop l.at l.rows)) ≡ map (λ e. e.0) (edges l.rows);
}

abbrev pub decreases-loop-at : goal.decreases-loop-at
decreases-loop-at l = length l.rows - l.at
