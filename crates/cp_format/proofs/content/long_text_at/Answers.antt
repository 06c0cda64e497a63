use Rattle.cp_format.specs.Contents.{long_text_format}
use Rattle.cp_format.specs.Faults.{FaultAt}
use Rattle.cp_format.proofs.Faults.{passed_on}
use Rattle.cp_format.proofs.LongTexts.{length_of_fault, text_of_fault}
use Rattle.cp_format.proofs.content.long_text_at.Goals as goal

pub returns-in_err-count-clause-fault : goal.returns-in_err-count-clause-fault
returns-in_err-count-clause-fault c =
    passed_on (FaultAt (long_text_format c.args.room) c.args.bytes.now c.args.at) c.from_residual.result c.in_err-count.field-0.0 c.from_residual.ensures
    (length_of_fault c.args.room c.min.result c.min.ensures c.args.bytes.now c.args.at c.in_err-count.field-0.0 c.in_err-count.ensures.fault)

pub returns-in_err-text-clause-fault : goal.returns-in_err-text-clause-fault
returns-in_err-text-clause-fault c =
    passed_on (FaultAt (long_text_format c.args.room) c.args.bytes.now c.args.at) c.from_residual-in_err-text.result c.in_err-text.field-0.0 c.from_residual-in_err-text.ensures
    (text_of_fault c.args.room c.min.result c.min.ensures c.args.bytes.now c.args.at c.in_ok-count.count c.in_ok-count.at c.in_ok-count.ensures.read c.in_err-text.field-0.0 c.in_err-text.ensures.fault)
