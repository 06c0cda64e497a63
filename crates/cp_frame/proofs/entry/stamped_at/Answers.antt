use Rattle.cp_format.specs.Faults.{FaultAt}
use Rattle.cp_format.proofs.Faults.{passed_on}
use Rattle.cp_frame.specs.EntryReading.{entry_behind}
use Rattle.cp_frame.proofs.EntryForms.{stamped_batch_fault, stamped_read, stamped_stamp_fault}
use Rattle.cp_frame.proofs.entry.stamped_at.Goals as goal

pub returns-in_err-stamp-clause-fault : goal.returns-in_err-stamp-clause-fault
returns-in_err-stamp-clause-fault c =
    passed_on (FaultAt (entry_behind 4) c.args.bytes.now c.args.at) c.from_residual.result c.in_err-stamp.field-0.0 c.from_residual.ensures
    (stamped_stamp_fault c.args.bytes.now c.args.at c.in_err-stamp.field-0.0 c.in_err-stamp.ensures.fault)

pub returns-in_err-ops-clause-fault : goal.returns-in_err-ops-clause-fault
returns-in_err-ops-clause-fault c =
    passed_on (FaultAt (entry_behind 4) c.args.bytes.now c.args.at) c.from_residual-in_err-ops.result c.in_err-ops.field-0.0 c.from_residual-in_err-ops.ensures
    (stamped_batch_fault c.args.bytes.now c.args.at c.in_ok-stamp.stamp c.in_ok-stamp.at c.in_ok-stamp.ensures.read c.in_err-ops.field-0.0 c.in_err-ops.ensures.fault)

pub returns-clause-read : goal.returns-clause-read
returns-clause-read c =
    stamped_read c.args.bytes.now c.args.at c.in_ok-stamp.stamp c.in_ok-stamp.at c.in_ok-stamp.ensures.read c.in_ok-ops.field-0-0.ops c.in_ok-ops.field-0-0.records c.in_ok-ops.at c.in_ok-ops.ensures.read
