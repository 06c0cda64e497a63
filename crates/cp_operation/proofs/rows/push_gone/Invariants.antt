use Rattle.std.proofs.Common.{take, map}
use Rattle.std.specs.declared.option.Option.TheVariants.{None}
use Rattle.cp_model.specs.declared.row.Row.{Row}
use Rattle.cp_model.specs.declared.record.RecOp.TheVariants as letter
use Rattle.cp_record.specs.Bytes.{record_below}
use Rattle.cp_operation.specs.Appending.{Appended}
use Rattle.cp_operation.proofs.rows.push_gone.Given as goal

abbrev pub invariant-loop-row : goal.invariant-loop-row
invariant-loop-row l = Appended l.initial.rows l.rows (map (λ (r : Row). record_below l.tid letter.D l.base r.path None) (take l.row-index l.row-items))
