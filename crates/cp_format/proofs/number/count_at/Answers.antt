use Rattle.std.proofs.Common.{arith}
use Rattle.cp_format.proofs.Leaves.{count_fails}
use Rattle.cp_format.proofs.number.count_at.Goals.{then-count-least-via-then-count-least, then-count-least-via-else-count-least+then-count-most}
use Rattle.cp_format.proofs.number.count_at.Goals as goal

pub returns-then-at-bytes-clause-fault : goal.returns-then-at-bytes-clause-fault
returns-then-at-bytes-clause-fault c = count_fails c.args.least c.args.most c.args.bytes.now c.args.at c.requires.some c.requires.byte c.requires.at (λ lt low high. omega (arith, lt, c.if-at-bytes.true))

pub returns-then-count-least-clause-fault : goal.returns-then-count-least-clause-fault
returns-then-count-least-clause-fault c =
    count_fails c.args.least c.args.most c.args.bytes.now c.args.at c.requires.some c.requires.byte c.requires.at
    (λ lt low high. elim c.then-count-least.branch [
      | then-count-least-via-then-count-least w ↦ let h = w.if-count-least.true in omega (arith, h, low)
      | then-count-least-via-else-count-least+then-count-most w ↦ let h = w.if-count-most.true in omega (arith, h, high)
    ])
