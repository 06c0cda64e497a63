use Rattle.cp_format.specs.Faults.{FaultAt}
use Rattle.cp_format.specs.Parts.{source_format}
use Rattle.cp_format.proofs.Faults.{passed_on}
use Rattle.cp_format.proofs.Records.{copy_fault}
use Rattle.cp_page.proofs.order.source_at.Goals as goal

pub returns-in_err-place-in-C-clause-fault : goal.returns-in_err-place-in-C-clause-fault
returns-in_err-place-in-C-clause-fault c =
    let bytes = c.args.bytes.now in
    let e = c.in_err-place-in-C.field-0.0 in
    passed_on (FaultAt (source_format c.args.op) bytes c.args.at) c.from_residual.result e c.from_residual.ensures
    (copy_fault c.args.op bytes c.args.at e c.in-C.is c.in_err-place-in-C.ensures.fault)
