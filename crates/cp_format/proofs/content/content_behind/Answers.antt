use Rattle.std.proofs.Common.{arith}
use Rattle.cp_format.specs.Contents.{content_behind}
use Rattle.cp_format.specs.Faults.{FaultAt}
use Rattle.cp_format.proofs.Contents.{number_fault, below_fault, text_fault}
use Rattle.cp_format.proofs.Faults.{passed_on}
use Rattle.cp_format.proofs.content.content_behind.Goals as goal

pub returns-in_err-number-in-4-clause-fault : goal.returns-in_err-number-in-4-clause-fault
returns-in_err-number-in-4-clause-fault c =
    passed_on (FaultAt (content_behind c.args.room c.args.form) c.args.bytes.now c.args.at) c.from_residual.result c.in_err-number-in-4.field-0.0 c.from_residual.ensures
    (number_fault c.args.room c.args.bytes.now c.args.at c.args.form (omega arith) c.in_err-number-in-4.field-0.0 c.in_err-number-in-4.ensures.fault)

pub returns-in_err-bits-in-5-clause-fault : goal.returns-in_err-bits-in-5-clause-fault
returns-in_err-bits-in-5-clause-fault c =
    passed_on (FaultAt (content_behind c.args.room c.args.form) c.args.bytes.now c.args.at) c.from_residual-in_err-bits-in-5.result c.in_err-bits-in-5.field-0.0 c.from_residual-in_err-bits-in-5.ensures
    (below_fault c.args.room c.args.bytes.now c.args.at c.args.form (omega arith) c.in_err-bits-in-5.field-0.0 c.in_err-bits-in-5.ensures.fault)

pub returns-in_err-text-in_default-clause-fault : goal.returns-in_err-text-in_default-clause-fault
returns-in_err-text-in_default-clause-fault c =
    passed_on (FaultAt (content_behind c.args.room c.args.form) c.args.bytes.now c.args.at) c.from_residual-in_err-text-in_default.result c.in_err-text-in_default.field-0.0 c.from_residual-in_err-text-in_default.ensures
    (text_fault c.args.room c.args.bytes.now c.args.at c.args.form (omega arith) c.in_err-text-in_default.field-0.0 c.in_err-text-in_default.ensures.fault)
