use Rattle.std.proofs.Common.{◌≤◌, ◌+◌, ◌*◌, ◌-◌, arith, subst}
use Rattle.cp_format.specs.Faults.{FaultAt}
use Rattle.cp_format.specs.Parts.{count_format, digit_format}
use Rattle.cp_format.proofs.Faults.{fault_alike, passed_on}
use Rattle.cp_format.proofs.Numbers.{alike_digit}
use Rattle.cp_format.proofs.number.digit_at.Goals as goal

pub returns-in_err-digit-clause-fault : goal.returns-in_err-digit-clause-fault
returns-in_err-digit-clause-fault c =
    let bytes = c.args.bytes.now in
    let high = c.args.high in
    let least = c.args.least in
    let most = c.args.most in
    let e = c.in_err-digit.field-0.0 in
    let le : high * 256 ≤ most = omega (arith, c.requires.high) in
    let fault = subst (λ n. FaultAt (count_format n (most - high * 256)) bytes c.args.at e) c.saturating_sub.ensures c.in_err-digit.ensures.fault in
    passed_on (FaultAt (digit_format high least most) bytes c.args.at) c.from_residual.result e c.from_residual.ensures
    (fault_alike (count_format (least - high * 256) (most - high * 256)) (digit_format high least most) (λ d. high * 256 + d) (alike_digit high least most le) bytes c.args.at e fault)
