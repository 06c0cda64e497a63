use Rattle.std.proofs.Common.{◌≤◌, ◌∙◌, ap, length, take, drop, arith}
use Rattle.std.proofs.lemmas.List.{take_rest}
use Rattle.cp_format.proofs.Leaves.{number_reads, number_fails}
use Rattle.cp_format.proofs.number.number_at.Goals as goal

pub returns-in-Some-clause-read : goal.returns-in-Some-clause-read
returns-in-Some-clause-read c =
    let h = c.in-Some.ensures.cases in
    let rest = take_rest c.args.bytes.now c.args.at in
    let long : 8 ≤ length (drop c.args.at c.args.bytes.now) = omega (arith, h.2, ap length rest) in
    number_reads c.args.bytes.now c.args.at c.from_be_bytes.result c.in-Some.first.now (λ i. omega (arith, c.type_inv.bytes i)) c.requires long (h.0 ∙ ap (take 8) rest) c.from_be_bytes.ensures

pub returns-in-None-clause-fault : goal.returns-in-None-clause-fault
returns-in-None-clause-fault c =
    let rest = take_rest c.args.bytes.now c.args.at in
    number_fails c.args.bytes.now c.args.at (λ i. omega (arith, c.type_inv.bytes i)) c.requires (omega (arith, c.in-None.ensures.cases, ap length rest))
