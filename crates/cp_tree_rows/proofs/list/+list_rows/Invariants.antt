use Rattle.std.proofs.Common.{◌≡◌, ◌++◌, ◌≤◌, ◌-◌, T, map, length, drop}
use Rattle.cp_model.specs.Subtrees.{entries_under}
use Rattle.cp_tree.specs.Branch.{child_rows}
use Rattle.cp_tree.specs.Rows.{entry_row}
use Rattle.cp_tree_rows.specs.Forest.{edges, nests}
use Rattle.cp_tree_rows.proofs.list.+list_rows.Given as goal

abbrev pub invariant-loop-first : goal.invariant-loop-first
invariant-loop-first l = record {
  within : l.first ≤ length l.rows;
  back : T (nests (drop l.first l.rows));
  same_place : l.at.items ≡ l.initial.at.items;
  so_far : l.out.items ++ map entry_row (entries_under l.initial.at.items (child_rows (edges (drop l.first l.rows)))) ≡ l.initial.out.items ++ map entry_row (entries_under l.initial.at.items (child_rows (edges l.rows)));
}

abbrev pub decreases-loop-first : goal.decreases-loop-first
decreases-loop-first l = length l.rows - l.first

abbrev pub decreases-list_rows : goal.decreases-list_rows
decreases-list_rows l = length l.rows.now
