use Rattle.std.proofs.Common.{◌≤◌, ◌<◌, ◌∙◌, ap, length, take, drop, get_or, arith}
use Rattle.std.proofs.lemmas.List.{take_rest}
use Rattle.cp_format.proofs.HighNumbers.{high_bad, high_fails, high_reads}
use Rattle.cp_format.proofs.content.high_at.Goals.{else-at-bytes-via-then-at-bytes+else-bytes-at-lt128, else-at-bytes-via-else-at-bytes}
use Rattle.cp_format.proofs.content.high_at.Goals as goal

pub returns-then-bytes-at-lt128-clause-fault : goal.returns-then-bytes-at-lt128-clause-fault
returns-then-bytes-at-lt128-clause-fault c = high_bad c.args.bytes.now c.args.at c.if-at-bytes.true c.if-bytes-at-lt128.true

pub returns-in-Some-clause-read : goal.returns-in-Some-clause-read
returns-in-Some-clause-read c =
    let h = c.in-Some.ensures.cases in
    let rest = take_rest c.args.bytes.now c.args.at in
    let long : 8 ≤ length (drop c.args.at c.args.bytes.now) = omega (arith, h.2, ap length rest) in
    let high : c.args.at < length c.args.bytes.now → 128 ≤ get_or c.args.bytes.now c.args.at 0 = λ lt. elim c.else-at-bytes.branch [
      | else-at-bytes-via-then-at-bytes+else-bytes-at-lt128 w ↦ w.if-bytes-at-lt128.false
      | else-at-bytes-via-else-at-bytes w ↦ let less = w.if-at-bytes.false in absurd (omega (arith, less, lt))
    ] in
    high_reads c.args.bytes.now c.args.at c.from_be_bytes.result c.in-Some.first.now (λ i. omega (arith, c.type_inv.bytes i)) c.requires high long (h.0 ∙ ap (take 8) rest) c.from_be_bytes.ensures

pub returns-in-None-clause-fault : goal.returns-in-None-clause-fault
returns-in-None-clause-fault c =
    let rest = take_rest c.args.bytes.now c.args.at in
    let high : c.args.at < length c.args.bytes.now → 128 ≤ get_or c.args.bytes.now c.args.at 0 = λ lt. elim c.else-at-bytes.branch [
      | else-at-bytes-via-then-at-bytes+else-bytes-at-lt128 w ↦ w.if-bytes-at-lt128.false
      | else-at-bytes-via-else-at-bytes w ↦ let less = w.if-at-bytes.false in absurd (omega (arith, less, lt))
    ] in
    high_fails c.args.bytes.now c.args.at (λ i. omega (arith, c.type_inv.bytes i)) c.requires high (omega (arith, c.in-None.ensures.cases, ap length rest))
