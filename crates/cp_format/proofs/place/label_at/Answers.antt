use Rattle.cp_format.specs.Faults.{FaultAt}
use Rattle.cp_format.specs.Parts.{label_format}
use Rattle.cp_format.proofs.Faults.{passed_on}
use Rattle.cp_format.proofs.place.label_at.Goals as goal

pub returns-in_err-text-clause-fault : goal.returns-in_err-text-clause-fault
returns-in_err-text-clause-fault c =
    passed_on (FaultAt (label_format c.args.most) c.args.bytes.now c.args.at) c.from_residual.result c.in_err-text.field-0.0 c.from_residual.ensures c.in_err-text.ensures.fault
