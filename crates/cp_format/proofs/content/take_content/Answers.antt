use Rattle.cp_format.specs.Contents.{content_format}
use Rattle.cp_format.specs.Faults.{FaultAt}
use Rattle.cp_format.proofs.Contents.{form_fault, behind_fault}
use Rattle.cp_format.proofs.Faults.{passed_on, passed_by}
use Rattle.cp_format.proofs.content.take_content.Goals as goal

pub returns-in_err-form-clause-fault : goal.returns-in_err-form-clause-fault
returns-in_err-form-clause-fault c =
    passed_on (FaultAt (content_format c.args.room) c.args.bytes.now c.args.at) c.from_residual.result c.in_err-form.field-0.0 c.from_residual.ensures
    (form_fault c.args.room c.args.bytes.now c.args.at c.in_err-form.field-0.0 c.in_err-form.ensures.fault)

pub returns-clause-fault : goal.returns-clause-fault
returns-clause-fault c =
    passed_by c.content_behind.result (λ e f. behind_fault c.args.room c.args.bytes.now c.args.at c.in_ok-form.form c.in_ok-form.at c.in_ok-form.ensures.read e f) c.content_behind.ensures.fault
