use Rattle.std.proofs.Common.{◌≡◌, ◌≤◌, ◌⊎◌, inl, inr, sym, ◌∙◌, length, arith}
use Rattle.std.proofs.lemmas.Bool.{cases_lt}
use Rattle.cp_frame.proofs.Early.{count_ended}
use Rattle.cp_frame.proofs.order.common.Goals as goal

pub returns : goal.returns
returns c =
    let k = c.loop-k.k in
    let one = c.args.one.now in
    let other = c.args.other.now in
    let past = c.loop-k-test.false in
    let most = c.min-most.ensures in
    let ended : (length one ≤ k) ⊎ (length other ≤ k) = elim (cases_lt (length one) (length other)) [
      | inl lt ↦ inl (omega (arith, past, most, lt))
      | inr le ↦ inr (omega (arith, past, most, le))
    ] in
    let same : c.min-most.result ≡ k = omega (arith, past, c.loop-k.auto.k-end) in
    same ∙ sym (count_ended one other k c.loop-k.invariant ended)
