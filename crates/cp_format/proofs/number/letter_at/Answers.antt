use Rattle.std.proofs.Common.{◌≢◌, get_or, arith, rules}
use Rattle.cp_format.proofs.Leaves.{letter_fails}
use Rattle.cp_format.proofs.number.letter_at.Goals as goal

pub returns-then-at-bytes-clause-fault : goal.returns-then-at-bytes-clause-fault
returns-then-at-bytes-clause-fault c = letter_fails c.args.bytes.now c.args.at c.requires (λ lt. absurd (omega (arith, lt, c.if-at-bytes.true)))

pub returns-in_default-clause-fault : goal.returns-in_default-clause-fault
returns-in_default-clause-fault c =
    let i : get_or c.args.bytes.now c.args.at 0 ≢ 73 = omega arith in
    let k : get_or c.args.bytes.now c.args.at 0 ≢ 67 = omega arith in
    let d : get_or c.args.bytes.now c.args.at 0 ≢ 68 = omega arith in
    let n : get_or c.args.bytes.now c.args.at 0 ≢ 75 = search rules in
    letter_fails c.args.bytes.now c.args.at c.requires (λ lt. (i, k, d, n))
