use Rattle.cp_model.specs.declared.limits.TheConstants.{WEIGHT_MAX}
use Rattle.std.proofs.Common.{◌≡◌, ◌+◌, ◌*◌, ◌≤◌, drop, length, sum_by}
use Rattle.cp_model.specs.Tree.{weight_of}
use Rattle.cp_model.specs.Literals.{literal_rows, edge_rows}
use Rattle.cp_record.specs.Bytes.{tree_length}
use Rattle.cp_record.proofs.length.+tree.Given as goal

abbrev pub invariant-edges_length-loop-edge : goal.invariant-edges_length-loop-edge
invariant-edges_length-loop-edge l = record {
  so_far : l.total + tree_length (edge_rows (drop l.edge-index l.edge-items)) ≡ tree_length (edge_rows l.edge-items);
  weight : sum_by weight_of (edge_rows (drop l.edge-index l.edge-items)) ≤ WEIGHT_MAX;
  small : tree_length (edge_rows l.edge-items) ≤ WEIGHT_MAX;
}

-- a node has one row more than what stands below it
abbrev pub decreases-edges_length : goal.decreases-edges_length
decreases-edges_length l = 2 * length l.list.now + 1

abbrev pub decreases-rows_length : goal.decreases-rows_length
decreases-rows_length l = 2 * length (literal_rows l.tree.now)
