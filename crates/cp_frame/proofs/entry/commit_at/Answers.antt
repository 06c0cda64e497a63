use Rattle.cp_format.specs.Faults.{FaultAt}
use Rattle.cp_format.proofs.Faults.{passed_on}
use Rattle.cp_frame.specs.EntryReading.{entry_behind}
use Rattle.cp_frame.proofs.EntryForms.{commit_fault, commit_read}
use Rattle.cp_frame.proofs.entry.commit_at.Goals as goal

pub returns-in_err-ops-clause-fault : goal.returns-in_err-ops-clause-fault
returns-in_err-ops-clause-fault c =
    passed_on (FaultAt (entry_behind 3) c.args.bytes.now c.args.at) c.from_residual.result c.in_err-ops.field-0.0 c.from_residual.ensures
    (commit_fault c.args.bytes.now c.args.at c.in_err-ops.field-0.0 c.in_err-ops.ensures.fault)

pub returns-clause-read : goal.returns-clause-read
returns-clause-read c = commit_read c.args.bytes.now c.args.at c.in_ok-ops.field-0-0.ops c.in_ok-ops.field-0-0.records c.in_ok-ops.at c.in_ok-ops.ensures.read
