use Rattle.cp_format.specs.Faults.{FaultAt}
use Rattle.cp_format.specs.Parts.{bounded_format}
use Rattle.cp_format.proofs.Faults.{passed_by, passed_on}
use Rattle.cp_format.proofs.Numbers.{first_fault, second_fault, third_fault, last_fault}
use Rattle.cp_format.proofs.number.bounded_at.Goals as goal

pub returns-in_err-first-clause-fault : goal.returns-in_err-first-clause-fault
returns-in_err-first-clause-fault c =
    passed_on (FaultAt (bounded_format c.args.least c.args.most) c.args.bytes.now c.args.at) c.from_residual.result c.in_err-first.field-0.0 c.from_residual.ensures
    (first_fault c.args.least c.args.most c.requires.some c.args.bytes.now c.args.at c.in_err-first.field-0.0 c.in_err-first.ensures.fault)

pub returns-in_err-second-clause-fault : goal.returns-in_err-second-clause-fault
returns-in_err-second-clause-fault c =
    passed_on (FaultAt (bounded_format c.args.least c.args.most) c.args.bytes.now c.args.at) c.from_residual-in_err-second.result c.in_err-second.field-0.0 c.from_residual-in_err-second.ensures
    (second_fault c.args.least c.args.most c.requires.some c.args.bytes.now c.args.at c.in_ok-first.first c.in_ok-first.at c.in_ok-first.ensures.read c.in_err-second.field-0.0 c.in_err-second.ensures.fault)

pub returns-in_err-third-clause-fault : goal.returns-in_err-third-clause-fault
returns-in_err-third-clause-fault c =
    passed_on (FaultAt (bounded_format c.args.least c.args.most) c.args.bytes.now c.args.at) c.from_residual-in_err-third.result c.in_err-third.field-0.0 c.from_residual-in_err-third.ensures
    (third_fault c.args.least c.args.most c.requires.some c.args.bytes.now c.args.at c.in_ok-first.first c.in_ok-first.at c.in_ok-first.ensures.read c.in_ok-second.second c.in_ok-second.at c.in_ok-second.ensures.read
    c.in_err-third.field-0.0 c.in_err-third.ensures.fault)

pub returns-clause-fault : goal.returns-clause-fault
returns-clause-fault c =
    passed_by c.digit_at-4.result
    (λ e f. last_fault c.args.least c.args.most c.requires.some c.args.bytes.now c.args.at c.in_ok-first.first c.in_ok-first.at c.in_ok-first.ensures.read c.in_ok-second.second c.in_ok-second.at c.in_ok-second.ensures.read
    c.in_ok-third.third c.in_ok-third.at c.in_ok-third.ensures.read e f)
    c.digit_at-4.ensures.fault
