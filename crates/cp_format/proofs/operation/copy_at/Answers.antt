use Rattle.cp_format.specs.Faults.{FaultAt}
use Rattle.cp_format.specs.Operations.{op_behind}
use Rattle.cp_format.proofs.Faults.{passed_on}
use Rattle.cp_format.proofs.Operations.{copy_from_fault, copy_into_fault}
use Rattle.cp_format.proofs.operation.copy_at.Goals as goal

pub returns-in_err-from-clause-fault : goal.returns-in_err-from-clause-fault
returns-in_err-from-clause-fault c =
    passed_on (FaultAt (op_behind 3) c.args.bytes.now c.args.at) c.from_residual.result c.in_err-from.field-0.0 c.from_residual.ensures
    (copy_from_fault c.args.bytes.now c.args.at c.in_err-from.field-0.0 c.in_err-from.ensures.fault)

pub returns-in_err-into-clause-fault : goal.returns-in_err-into-clause-fault
returns-in_err-into-clause-fault c =
    passed_on (FaultAt (op_behind 3) c.args.bytes.now c.args.at) c.from_residual-in_err-into.result c.in_err-into.field-0.0 c.from_residual-in_err-into.ensures
    (copy_into_fault c.args.bytes.now c.args.at c.in_ok-from.from c.in_ok-from.at c.in_ok-from.ensures.read c.in_err-into.field-0.0 c.in_err-into.ensures.fault)
