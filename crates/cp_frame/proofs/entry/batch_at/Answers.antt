use Rattle.cp_format.specs.Faults.{FaultAt}
use Rattle.cp_format.proofs.Faults.{passed_on}
use Rattle.cp_frame.specs.Entries.{batch_format}
use Rattle.cp_frame.proofs.Batches.{batch_read, batch_records_fault, count_fault, ops_fault}
use Rattle.cp_frame.proofs.entry.batch_at.Goals as goal

pub returns-in_err-count-clause-fault : goal.returns-in_err-count-clause-fault
returns-in_err-count-clause-fault c =
    passed_on (FaultAt (batch_format c.args.trees) c.args.bytes.now c.args.at) c.from_residual.result c.in_err-count.field-0.0 c.from_residual.ensures
    (count_fault c.args.trees c.args.bytes.now c.args.at c.in_err-count.field-0.0 c.in_err-count.ensures.fault)

pub returns-in_err-ops-clause-fault : goal.returns-in_err-ops-clause-fault
returns-in_err-ops-clause-fault c =
    passed_on (FaultAt (batch_format c.args.trees) c.args.bytes.now c.args.at) c.from_residual-in_err-ops.result c.in_err-ops.field-0.0 c.from_residual-in_err-ops.ensures
    (ops_fault c.args.trees c.args.bytes.now c.args.at c.in_ok-count.count c.in_ok-count.at c.in_ok-count.ensures.read c.in_err-ops.field-0.0 c.in_err-ops.ensures.fault)

pub returns-in_err-records-clause-fault : goal.returns-in_err-records-clause-fault
returns-in_err-records-clause-fault c =
    passed_on (FaultAt (batch_format c.args.trees) c.args.bytes.now c.args.at) c.from_residual-in_err-records.result c.in_err-records.field-0.0 c.from_residual-in_err-records.ensures
    (batch_records_fault c.args.trees c.args.bytes.now c.args.at c.in_ok-count.count c.in_ok-count.at c.in_ok-count.ensures.read c.in_ok-ops.ops c.in_ok-ops.at c.in_ok-ops.ensures.read c.in_err-records.field-0.0 c.in_err-records.ensures.fault)

pub returns-clause-read : goal.returns-clause-read
returns-clause-read c =
    batch_read c.args.trees c.args.bytes.now c.args.at c.in_ok-count.count c.in_ok-count.at c.in_ok-count.ensures.read c.in_ok-ops.ops c.in_ok-ops.at c.in_ok-ops.ensures.read
    c.in_ok-records.records c.in_ok-records.at c.in_ok-records.ensures.read
