use Rattle.std.proofs.Common.{◌+◌, length, take, map}
use Rattle.std.specs.declared.option.Option.TheVariants.{None}
use Rattle.cp_model.specs.Place.{Path}
use Rattle.cp_model.specs.Subtrees.{entries_under}
use Rattle.cp_model.specs.Literals.{literal_rows, edge_rows}
use Rattle.cp_model.specs.declared.row.Content.{Content}
use Rattle.cp_model.specs.declared.record.RecOp.TheVariants as letter
use Rattle.cp_record.specs.Bytes.{record_below}
use Rattle.cp_operation.specs.Appending.{Appended}
use Rattle.cp_operation.proofs.rows.+inserting.Given as goal

abbrev pub decreases-push_edges : goal.decreases-push_edges
decreases-push_edges l = length l.below.now + length l.below.now + 1

abbrev pub decreases-push_literal : goal.decreases-push_literal
decreases-push_literal l = length (literal_rows l.literal.now) + length (literal_rows l.literal.now)

abbrev pub invariant-push_edges-loop-edge : goal.invariant-push_edges-loop-edge
invariant-push_edges-loop-edge l = Appended l.initial.rows l.rows (map (λ (e : Path × Content). record_below l.tid letter.I l.base e.0 None) (entries_under l.at (edge_rows (take l.edge-index l.edge-items))))
