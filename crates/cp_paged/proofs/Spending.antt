-- What looking for a change reads, from step to step.
use Rattle.std.proofs.Common.{arith, ◌≡◌, ◌≤◌, ◌<◌, ◌+◌, ◌-◌, ◌∙◌, ap, ℕ, suc, true, List, length}
use Rattle.std.specs.Prelude.{◌*◌}
use Rattle.std.proofs.Math.Nat.{mul-le-mul_right, add-mul}
use Rattle.cp_model.specs.Place.{Path}
use Rattle.cp_model.specs.Leaps.{last}
use Rattle.cp_model.specs.Records.{reads}
use Rattle.cp_model.specs.declared.kind.Kind.{Kind}
use Rattle.cp_model.specs.declared.record.Record.{Record}
use Rattle.cp_store.specs.Costs.{Cost, steps_passed, has_row, fan, change_cost}
use Rattle.cp_paged.specs.Newest.{first_depth}
use Rattle.cp_paged.proofs.Passed.{passes-one, passes-on, fan-is}

-- one round more of s, of so many that are left
pub one_of : (m s : ℕ) → 1 ≤ m → s ≤ m * s
one_of m s some = let h = mul-le-mul_right s some in omega (arith, h)

pub one_more_of : (m n s : ℕ) → suc m ≤ n → m * s + s ≤ n * s
one_more_of m n s more = let h = mul-le-mul_right s more in let e = add-mul m 1 s in omega (arith, h, e)

module _ (k : Kind) (rs : List Record) (c d : Cost) (same : d ≡ c) (p : Path) (first : ℕ) (is : first ≡ first_depth k p) where
  round_is : (length p + 1 - first) * d.look ≡ fan k p * c.look
  round_is = ap (λ n. (length p + 1 - n) * d.look) is ∙ ap (λ n. n * d.look) (fan-is k p) ∙ ap (λ (x : Cost). fan k p * x.look) same

  -- the search ends with one round
  pub spent-end : (t high a b now : ℕ) → b + change_cost k rs c high p ≤ a + change_cost k rs c t p → now ≤ b + (length p + 1 - first) * d.look → now ≤ a + change_cost k rs c t p
  spent-end t high a b now spent read =
      let h = one_of (steps_passed (has_row k rs) high p (last (reads k rs) high p)) (fan k p * c.look) (passes-one k rs p high) in
      let e = round_is in
      omega (arith, spent, read, h, e)

  -- the search goes on after one round
  pub spent-on : (t high u a b now : ℕ) → last (reads k rs) (u - 1) p ≡ last (reads k rs) high p → 0 < u → u ≤ high → has_row k rs p u ≡ true
      → b + change_cost k rs c high p ≤ a + change_cost k rs c t p → now ≤ b + (length p + 1 - first) * d.look → now + change_cost k rs c (u - 1) p ≤ a + change_cost k rs c t p
  spent-on t high u a b now same_last some le tells spent read =
      let h = one_more_of (steps_passed (has_row k rs) (u - 1) p (last (reads k rs) (u - 1) p)) (steps_passed (has_row k rs) high p (last (reads k rs) high p)) (fan k p * c.look) (passes-on k rs p u high same_last some le tells) in
      let e = round_is in
      omega (arith, spent, read, h, e)
