use Rattle.std.proofs.Common.{◌≡◌, ◌+◌, drop, length}
use Rattle.cp_model.specs.Literals.{edge_rows}
use Rattle.cp_tree.specs.Rows.{reach_of}
use Rattle.cp_operation.specs.Reaching.{reach_with}
use Rattle.cp_operation.proofs.Reached.{IsReach}
use Rattle.cp_operation.proofs.checks.+reach_of_literal.Given as goal

abbrev pub invariant-loop-edge : goal.invariant-loop-edge
invariant-loop-edge l = record {
  so_far : reach_with (length l.label + 1) l.all (reach_of (edge_rows (drop l.edge-index l.edge-items))) ≡ reach_with (length l.label + 1) l.initial.all (reach_of (edge_rows l.edge-items));
  within : IsReach (length l.label + 1) l.all;
}
