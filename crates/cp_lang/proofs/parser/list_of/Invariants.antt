use Rattle.std.proofs.Common.{◌≡◌, ◌++◌}
use Rattle.cp_model.specs.Literals.{edge_rows}
use Rattle.cp_lang.specs.Grammar.{rows_of_edges}
use Rattle.cp_lang.proofs.parser.list_of.Given as goal

abbrev pub invariant-loop-label : goal.invariant-loop-label
invariant-loop-label l = edge_rows l.items.items ++ rows_of_edges l.label-iterator ≡ rows_of_edges l.fn.edges.entries
