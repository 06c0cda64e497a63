use Rattle.cp_format.specs.Faults.{FaultAt}
use Rattle.cp_format.specs.Operations.{op_behind}
use Rattle.cp_format.proofs.Faults.{passed_on}
use Rattle.cp_format.proofs.Operations.{del_from_fault, del_label_fault}
use Rattle.cp_format.proofs.operation.del_at.Goals as goal

pub returns-in_err-from-clause-fault : goal.returns-in_err-from-clause-fault
returns-in_err-from-clause-fault c =
    passed_on (FaultAt (op_behind 2) c.args.bytes.now c.args.at) c.from_residual.result c.in_err-from.field-0.0 c.from_residual.ensures
    (del_from_fault c.args.bytes.now c.args.at c.in_err-from.field-0.0 c.in_err-from.ensures.fault)

pub returns-in_err-label-clause-fault : goal.returns-in_err-label-clause-fault
returns-in_err-label-clause-fault c =
    passed_on (FaultAt (op_behind 2) c.args.bytes.now c.args.at) c.from_residual-in_err-label.result c.in_err-label.field-0.0 c.from_residual-in_err-label.ensures
    (del_label_fault c.args.bytes.now c.args.at c.in_ok-from.from c.in_ok-from.at c.in_ok-from.ensures.read c.in_err-label.field-0.0 c.in_err-label.ensures.fault)
