use Rattle.cp_format.specs.Faults.{FaultAt}
use Rattle.cp_format.specs.Operations.{target_format}
use Rattle.cp_format.proofs.Faults.{passed_on}
use Rattle.cp_format.proofs.Operations.{target_fault}
use Rattle.cp_format.proofs.operation.target_at.Goals as goal

pub returns-in_err-path-clause-fault : goal.returns-in_err-path-clause-fault
returns-in_err-path-clause-fault c =
    passed_on (FaultAt target_format c.args.bytes.now c.args.at) c.from_residual.result c.in_err-path.field-0.0 c.from_residual.ensures
    (target_fault c.args.bytes.now c.args.at c.in_err-path.field-0.0 c.in_err-path.ensures.fault)
