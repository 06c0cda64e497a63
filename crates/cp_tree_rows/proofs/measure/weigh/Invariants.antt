use Rattle.std.proofs.Common.{◌≡◌, take}
use Rattle.cp_tree_rows.specs.Forest.{rows_weight}
use Rattle.cp_tree_rows.proofs.measure.weigh.Given as goal

abbrev pub invariant-loop-row : goal.invariant-loop-row
invariant-loop-row l = l.weight ≡ rows_weight (take l.row-index l.rows)
