use Rattle.cp_format.specs.Faults.{FaultAt}
use Rattle.cp_format.specs.Operations.{op_behind}
use Rattle.cp_format.proofs.Faults.{passed_on}
use Rattle.cp_format.proofs.Operations.{ins_into_fault, ins_label_fault, ins_content_fault}
use Rattle.cp_format.proofs.operation.ins_at.Goals as goal

pub returns-in_err-into-clause-fault : goal.returns-in_err-into-clause-fault
returns-in_err-into-clause-fault c =
    passed_on (FaultAt (op_behind 1) c.args.bytes.now c.args.at) c.from_residual.result c.in_err-into.field-0.0 c.from_residual.ensures
    (ins_into_fault c.args.bytes.now c.args.at c.in_err-into.field-0.0 c.in_err-into.ensures.fault)

pub returns-in_err-label-clause-fault : goal.returns-in_err-label-clause-fault
returns-in_err-label-clause-fault c =
    passed_on (FaultAt (op_behind 1) c.args.bytes.now c.args.at) c.from_residual-in_err-label.result c.in_err-label.field-0.0 c.from_residual-in_err-label.ensures
    (ins_label_fault c.args.bytes.now c.args.at c.in_ok-into.into c.in_ok-into.at c.in_ok-into.ensures.read c.in_err-label.field-0.0 c.in_err-label.ensures.fault)

pub returns-in_err-content-clause-fault : goal.returns-in_err-content-clause-fault
returns-in_err-content-clause-fault c =
    passed_on (FaultAt (op_behind 1) c.args.bytes.now c.args.at) c.from_residual-in_err-content.result c.in_err-content.field-0.0 c.from_residual-in_err-content.ensures
    (ins_content_fault c.args.bytes.now c.args.at c.in_ok-into.into c.in_ok-into.at c.in_ok-into.ensures.read c.in_ok-label.label c.in_ok-label.at c.in_ok-label.ensures.read c.in_err-content.field-0.0 c.in_err-content.ensures.fault)
