use Rattle.std.proofs.Common.{◌≡◌}
use Rattle.cp_model.specs.Literals.{edge_rows}
use Rattle.cp_gen.specs.Source.{nodes_below}
use Rattle.cp_gen.proofs.source_tree.literal.Given as goal

abbrev pub invariant-loop-number : goal.invariant-loop-number
invariant-loop-number l = edge_rows l.items.items ≡ nodes_below l.number
