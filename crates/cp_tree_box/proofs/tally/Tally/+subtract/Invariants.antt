use Rattle.std.proofs.Common.{◌≡◌, ◌+◌}
use Rattle.cp_tree.proofs.Totals.{children_total}
use Rattle.cp_tree_box.specs.Tallies.{Gauge, row_counts, tally_counts}
use Rattle.cp_tree_box.proofs.tally.Tally.+subtract.Given as goal

abbrev pub invariant-loop-label : goal.invariant-loop-label
invariant-loop-label l = (g : Gauge) → tally_counts l.initial.self g + children_total (row_counts g l.at) l.label-iterator ≡ tally_counts l.self g + children_total (row_counts g l.at) l.initial.label-iterator
