use Rattle.cp_path.specs.declared.limits.TheConstants.{LABELS_MAX}
use Rattle.std.proofs.Common.{◌≡◌, ◌≤◌, ◌+◌, ◌++◌, length, drop}
use Rattle.cp_model.specs.Subtrees.{entries_under}
use Rattle.cp_model.specs.Literals.{literal_rows, edge_rows}
use Rattle.cp_tree.specs.Rows.{entries_in, deepest}
use Rattle.cp_tree.proofs.listing.+listing.Given as goal

abbrev pub decreases-list_edges : goal.decreases-list_edges
decreases-list_edges l = length l.below.now + length l.below.now + 1

abbrev pub decreases-list_tree : goal.decreases-list_tree
decreases-list_tree l = length (literal_rows l.tree.now) + length (literal_rows l.tree.now)

abbrev pub invariant-list_edges-loop-edge : goal.invariant-list_edges-loop-edge
invariant-list_edges-loop-edge l = record {
  so_far : entries_in l.rows.items ++ entries_under l.at (edge_rows (drop l.edge-index l.edge-items)) ≡ entries_in l.initial.rows.items ++ entries_under l.at (edge_rows l.edge-items);
  shallow : length l.at + deepest (edge_rows (drop l.edge-index l.edge-items)) ≤ LABELS_MAX;
}
