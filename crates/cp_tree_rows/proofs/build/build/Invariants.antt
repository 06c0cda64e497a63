use Rattle.std.proofs.Common.{◌≡◌, ◌+◌, ◌≤◌, take, length}
use Rattle.cp_tree.specs.Rows.{tree_of_rows}
use Rattle.cp_tree_rows.specs.Branches.{tree_in}
use Rattle.cp_tree_rows.proofs.build.build.Given as goal

abbrev pub invariant-loop-row : goal.invariant-loop-row
invariant-loop-row l = record {
  built : tree_in l.tree ≡ tree_of_rows (take (l.row-index + 1) l.fn.rows);
  few : length l.tree.rows.items ≤ l.row-index;
}
