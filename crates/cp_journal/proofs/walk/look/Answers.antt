use Rattle.std.proofs.Common.{rules, arith, ◌≤◌, ◌<◌, ◌+◌}
use Rattle.cp_disk.proofs.Composing.{still}
use Rattle.cp_journal.proofs.Looks.{at_end, seen_closed}
use Rattle.cp_journal.proofs.walk.look.Goals as goal

pub returns-then-not-branch-clause-seen : goal.returns-then-not-branch-clause-seen
returns-then-not-branch-clause-seen g c = λ known.
    let size = c.in_ok-has_bytes.ensures.size known in
    let outside : c.has_bytes.new.size < c.args.at + 1 = search rules in
    at_end c.args.at _ (omega (arith, size, outside))

pub returns-then-gate-ne1-clause-seen : goal.returns-then-gate-ne1-clause-seen
returns-then-gate-ne1-clause-seen g c = λ known.
    let size = c.in_ok-has_bytes.ensures.size known in
    let inside : c.args.at + 1 ≤ c.has_bytes.new.size = search rules in
    let r = c.in_ok-read.ensures.filled (still c.in_ok-has_bytes.ensures.cause.same known) in
    seen_closed c.args.at _ c.read.new.into (omega (arith, size, inside)) (search rules) (search rules) c.if-gate-ne1.true
