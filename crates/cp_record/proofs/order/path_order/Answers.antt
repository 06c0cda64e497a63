use Rattle.std.proofs.Common.{◌≡◌, ◌<◌, ◌⊎◌, ◌∙◌, sym, inl, inr, length, arith}
use Rattle.std.proofs.lemmas.Bool.Decides.{nat_tests}
use Rattle.cp_record.proofs.Ordered.{counted-begins, counted-smaller, order-ended, order-differs, order-agrees}
use Rattle.cp_record.proofs.order.path_order.Goals as goal
use Rattle.cp_record.proofs.order.path_order.Goals.{then-loop-left-test+else-not-is_empty, else-loop-left-test}

pub counted_at-requires : goal.counted_at-requires
counted_at-requires c =
    let some : 0 < length c.loop-left.left.now = grind (arith, nat_tests) in
    counted-begins c.loop-left.left.now some c.loop-left.invariant.left_counted

pub counted_at-requires-in-loop-left : goal.counted_at-requires-in-loop-left
counted_at-requires-in-loop-left c =
    let more : 0 < length c.loop-left.right.now = grind (arith, nat_tests) in
    counted-begins c.loop-left.right.now more c.loop-left.invariant.right_counted

pub returns-then-not-is_eq : goal.returns-then-not-is_eq
returns-then-not-is_eq c =
    let some : 0 < length c.loop-left.left.now = grind (arith, nat_tests) in
    let more : 0 < length c.loop-left.right.now = grind (arith, nat_tests) in
    order-differs c.args.one.now c.args.other.now c.loop-left.left.now c.loop-left.right.now c.loop-left.invariant some more
    c.counted_at.result.0.now c.counted_at.result.1.now c.counted_at-in-loop-left.result.0.now c.counted_at-in-loop-left.result.1.now c.counted_at.ensures c.counted_at-in-loop-left.ensures
    c.cmp-order.result c.cmp-order.ensures (sym c.is_eq.ensures ∙ c.if-not-is_eq.true)

pub loop-left-smaller : goal.loop-left-smaller
loop-left-smaller c =
    let some : 0 < length c.loop-left.left.now = grind (arith, nat_tests) in
    counted-smaller c.loop-left.left.now c.counted_at.result.0.now c.counted_at.result.1.now some c.counted_at.ensures c.loop-left.invariant.left_counted

pub loop-left-preserved : goal.loop-left-preserved
loop-left-preserved c =
    let some : 0 < length c.loop-left.left.now = grind (arith, nat_tests) in
    let more : 0 < length c.loop-left.right.now = grind (arith, nat_tests) in
    order-agrees c.args.one.now c.args.other.now c.loop-left.left.now c.loop-left.right.now c.loop-left.invariant some more
    c.counted_at.result.0.now c.counted_at.result.1.now c.counted_at-in-loop-left.result.0.now c.counted_at-in-loop-left.result.1.now c.counted_at.ensures c.counted_at-in-loop-left.ensures
    c.cmp-order.result c.cmp-order.ensures (sym c.is_eq.ensures ∙ c.if-not-is_eq.false)

pub returns : goal.returns
returns c =
    let left = c.loop-left.left.now in
    let right = c.loop-left.right.now in
    let none : (length left ≡ 0) ⊎ (length right ≡ 0) = elim c.loop-left-test.branch [
      | then-loop-left-test+else-not-is_empty w ↦ let e : length right ≡ 0 = grind (arith, nat_tests) in inr e
      | else-loop-left-test w ↦ let e : length left ≡ 0 = grind (arith, nat_tests) in inl e
    ] in
    order-ended c.args.one.now c.args.other.now left right c.loop-left.invariant none c.cmp.result c.cmp.ensures
