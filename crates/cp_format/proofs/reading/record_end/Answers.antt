use Rattle.cp_format.specs.Faults.{FaultAt}
use Rattle.cp_format.specs.Parts.{record_format}
use Rattle.cp_format.proofs.Faults.{passed_on}
use Rattle.cp_format.proofs.Records.{tid_fault, op_fault, path_fault, source_fault, record_of, record_read}
use Rattle.std.proofs.lemmas.Result.{IfOk-weaker, IfErr-weaker}
use Rattle.cp_format.proofs.reading.record_end.Goals as goal

pub returns-in_err-_tid-clause-fault : goal.returns-in_err-_tid-clause-fault
returns-in_err-_tid-clause-fault c =
    passed_on (FaultAt record_format c.args.bytes.now c.args.at) c.from_residual.result c.in_err-_tid.field-0.0 c.from_residual.ensures
    (tid_fault c.args.bytes.now c.args.at c.in_err-_tid.field-0.0 c.in_err-_tid.ensures.fault)

pub returns-in_err-op-clause-fault : goal.returns-in_err-op-clause-fault
returns-in_err-op-clause-fault c =
    passed_on (FaultAt record_format c.args.bytes.now c.args.at) c.from_residual-in_err-op.result c.in_err-op.field-0.0 c.from_residual-in_err-op.ensures
    (op_fault c.args.bytes.now c.args.at c.in_ok-_tid._tid c.in_ok-_tid.at c.in_ok-_tid.ensures.read c.in_err-op.field-0.0 c.in_err-op.ensures.fault)

pub returns-in_err-end-clause-fault : goal.returns-in_err-end-clause-fault
returns-in_err-end-clause-fault c =
    passed_on (FaultAt record_format c.args.bytes.now c.args.at) c.from_residual-in_err-end.result c.in_err-end.field-0.0 c.from_residual-in_err-end.ensures
    (path_fault c.args.bytes.now c.args.at c.in_ok-_tid._tid c.in_ok-_tid.at c.in_ok-_tid.ensures.read c.in_ok-op.op c.in_ok-op.at c.in_ok-op.ensures.read c.in_err-end.field-0.0 c.in_err-end.ensures.fault)

pub returns-clause-read : goal.returns-clause-read
returns-clause-read c =
    let p = c.in_ok-end.ensures.read in
    IfOk-weaker c.source_end.result _ _
    (λ next s. record { value = record_of (c.in_ok-_tid._tid, (c.in_ok-op.op, (p.value, s.value))); reads = record_read c.args.bytes.now c.args.at c.in_ok-_tid._tid c.in_ok-_tid.at c.in_ok-_tid.ensures.read c.in_ok-op.op c.in_ok-op.at c.in_ok-op.ensures.read p.value c.in_ok-end.end p.reads s.value next s.reads })
    c.source_end.ensures.read

pub returns-clause-fault : goal.returns-clause-fault
returns-clause-fault c =
    let p = c.in_ok-end.ensures.read in
    IfErr-weaker c.source_end.result _ _
    (λ e f. source_fault c.args.bytes.now c.args.at c.in_ok-_tid._tid c.in_ok-_tid.at c.in_ok-_tid.ensures.read c.in_ok-op.op c.in_ok-op.at c.in_ok-op.ensures.read p.value c.in_ok-end.end p.reads e f)
    c.source_end.ensures.fault
