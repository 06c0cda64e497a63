use Rattle.std.proofs.Common.{◌≡◌, ℕ, suc, zero, ◌+◌, ◌-◌, ◌<◌, ◌≤◌, true, take, length, get_or, sym, ap, ◌∙◌, arith}
use Rattle.std.specs.Prelude.{List, [], ◌∷◌, ◌&&◌}
use Rattle.std.proofs.lemmas.Bool.{and_parts}
use Rattle.cp_model.specs.declared.record.Record.{Record}
use Rattle.cp_model.specs.Changes.{rises, goes_before}
use Rattle.cp_memory_calls.proofs.next.rises.Goals as goal

-- rows that rise, and one more that goes after the last
rises-more : (rs : List Record) (n : ℕ) (a b : Record) → suc n < length rs → rises (take (suc n) rs) ≡ true → goes_before (get_or rs n a) (get_or rs (suc n) b) ≡ true → rises (take (suc (suc n)) rs) ≡ true
rises-more [] n a b lt h g = absurd (omega (arith, lt))
rises-more (x ∷ []) n a b lt h g = absurd (omega (arith, lt))
rises-more (x ∷ y ∷ rs) zero a b lt h g = ap (λ c. c && true) g
rises-more (x ∷ y ∷ rs) (suc n) a b lt h g =
    let both = and_parts (goes_before x y) (rises (y ∷ take n rs)) h in
    ap (λ c. c && rises (y ∷ take (suc n) rs)) both.0 ∙ rises-more (y ∷ rs) n a b (omega (arith, lt)) both.1 g

-- the same by the number of the row
rises-at : (rs : List Record) (i : ℕ) (a b : Record) → 1 ≤ i → i < length rs → rises (take i rs) ≡ true → goes_before (get_or rs (i - 1) a) (get_or rs i b) ≡ true → rises (take (i + 1) rs) ≡ true
rises-at rs zero a b some lt h g = absurd (omega (arith, some))
rises-at rs (suc n) a b some lt h g =
    let before : n ≡ suc n - 1 = omega arith in
    let after : suc n + 1 ≡ suc (suc n) = omega arith in
    ap (λ k. rises (take k rs)) after ∙ rises-more rs n a b lt h (ap (λ k. goes_before (get_or rs k a) (get_or rs (suc n) b)) before ∙ g)

pub loop-number-preserved : goal.loop-number-preserved
loop-number-preserved c =
    let rs = c.args.rows.now in
    let i = c.loop-number.number in
    let first = c.index-rows-number in
    let second = c.index-rows-number-in-loop-number in
    record {
      some = omega (arith, c.loop-number.invariant.some);
      front = rises-at rs i _ _ c.loop-number.invariant.some c.loop-number-test.true c.loop-number.invariant.front
          (ap (λ r. goes_before r (get_or rs i second.result)) (sym first.is) ∙ ap (goes_before first.result) (sym second.is) ∙ sym c.goes_before.ensures ∙ c.if-not-goes_before.false);
    }
