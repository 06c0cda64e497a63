use Rattle.std.proofs.Common.{◌≡◌, ◌+◌, max}
use Rattle.cp_tree.specs.Branch.{child_rows}
use Rattle.cp_tree.specs.Rows.{greatest}
use Rattle.cp_tree.proofs.Totals.{children_total}
use Rattle.cp_tree_box.specs.Tallies.{places, weighs, row_counts, row_depth, row_size}
use Rattle.cp_tree_box.proofs.reach.+reach_subtree.Given as goal

abbrev pub invariant-loop-label : goal.invariant-loop-label
invariant-loop-label l = record {
  nodes : l.reach.nodes + children_total (row_counts places l.at) l.label-iterator ≡ l.initial.reach.nodes + children_total (row_counts places l.at) l.initial.label-iterator;
  inner : l.reach.inner + children_total (row_counts weighs l.at) l.label-iterator ≡ l.initial.reach.inner + children_total (row_counts weighs l.at) l.initial.label-iterator;
  depth : max l.reach.depth (greatest (row_depth l.at) (child_rows l.label-iterator)) ≡ max l.initial.reach.depth (greatest (row_depth l.at) (child_rows l.initial.label-iterator));
  size : max l.reach.size (greatest (row_size l.at) (child_rows l.label-iterator)) ≡ max l.initial.reach.size (greatest (row_size l.at) (child_rows l.initial.label-iterator));
}
