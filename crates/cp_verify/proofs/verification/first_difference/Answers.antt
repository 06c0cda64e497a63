use Rattle.std.proofs.Common.{◌≡◌, ◌+◌, ◌∙◌, true, false, IsTrue, refl, sym, subst, arith}
use Rattle.cp_verify.proofs.Comparing.{differ-here, agree-here, differ-behind, same-all}
use Rattle.cp_verify.proofs.verification.first_difference.Goals as goal

pub loop-n-init : goal.loop-n-init
loop-n-init c = record { within = omega arith; same = refl; ours_are = c.iter-ours.ensures; theirs_are = c.iter-theirs.ensures }

pub returns-then-not-is_same : goal.returns-then-not-is_same
returns-then-not-is_same c =
    differ-here c.args.stored.now c.args.expected.now c.loop-n.n c.loop-n.ours c.loop-n.theirs c.loop-n.invariant c.next.result c.next-in-loop-n.result c.next.new.self c.next-in-loop-n.new.self
    c.next.ensures c.next-in-loop-n.ensures (λ e. let no : false ≡ true = subst IsTrue c.if-not-is_same.true (c.is_same.ensures.1 e) in absurd (cc no))

pub loop-n-preserved : goal.loop-n-preserved
loop-n-preserved c =
    agree-here c.args.stored.now c.args.expected.now c.loop-n.n c.loop-n.ours c.loop-n.theirs c.loop-n.invariant c.next.result c.next-in-loop-n.result c.next.new.self c.next-in-loop-n.new.self
    c.next.ensures c.next-in-loop-n.ensures (omega (arith, c.loop-n-test.true, c.count-count.ensures)) (c.is_same.ensures.0 (subst IsTrue (sym c.if-not-is_same.false) refl))

pub returns-then-is_some : goal.returns-then-is_some
returns-then-is_some c =
    differ-behind c.args.stored.now c.args.expected.now c.loop-n.n c.loop-n.ours c.loop-n.theirs c.loop-n.invariant (omega (arith, c.loop-n-test.false, c.count-count.ensures)) c.next-2.result c.next-2.new.self
    c.next-2.ensures c.count-count.result c.count-count.ensures (sym c.is_some.ensures ∙ c.if-is_some.true)

pub returns : goal.returns
returns c = same-all c.args.stored.now c.args.expected.now c.loop-n.n c.loop-n.ours c.loop-n.theirs c.loop-n.invariant (omega (arith, c.loop-n-test.false, c.count-count.ensures)) c.next-2.result c.next-2.new.self c.next-2.ensures (sym c.is_some.ensures ∙ c.if-is_some.false)
