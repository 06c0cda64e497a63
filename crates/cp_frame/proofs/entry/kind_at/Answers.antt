use Rattle.cp_format.specs.Faults.{FaultAt}
use Rattle.cp_format.proofs.Faults.{passed_on}
use Rattle.cp_frame.specs.EntryReading.{kind_format}
use Rattle.cp_frame.proofs.EntryForms.{kind_fault}
use Rattle.cp_frame.proofs.entry.kind_at.Goals as goal

pub returns-in_err-number-clause-fault : goal.returns-in_err-number-clause-fault
returns-in_err-number-clause-fault c =
    passed_on (FaultAt kind_format c.args.bytes.now c.args.at) c.from_residual.result c.in_err-number.field-0.0 c.from_residual.ensures
    (kind_fault c.args.bytes.now c.args.at c.in_err-number.field-0.0 c.in_err-number.ensures.fault)
