-- Halving a run, look by look.
use Rattle.std.proofs.Common.{arith, ◌≡◌, ◌≤◌, ◌<◌, ◌+◌, ◌-◌, ◌*◌, ◌^◌, refl, subst, ℕ, List, zero, suc, le_trans, true, false}
use Rattle.std.proofs.lemmas.Nat.{pow_below}
use Rattle.std.proofs.Math.Nat.{pow-suc, mul-le-mul_left, mul_assoc}
use Rattle.cp_page.specs.Keys.{first_key}
use Rattle.cp_page.specs.declared.page.TheConstants.{PAGE_SIZE}
use Rattle.cp_run.specs.declared.run.Run.{Run}
use Rattle.cp_run.specs.Holding.{page_at}
use Rattle.cp_run.specs.Searching.{IsWithinLog, IsSplit, is_by, begins_by}

-- so many looks have halved a run of k pages
pub record HasHalved (k low high looks : ℕ) : Type 0 where
  pub halves : 2 ^ looks * (high - low) ≤ k
  pub last : (m : ℕ) → looks ≡ suc m → 2 ^ m ≤ k

pub halved_none : (k : ℕ) → HasHalved k 0 k 0
halved_none k = record { halves = omega arith; last = λ m e. absurd (omega (arith, e)) }

-- a half of a half
doubled : (l s t k : ℕ) → 2 ^ l * s ≤ k → t * 2 ≤ s → 2 ^ suc l * t ≤ k
doubled l s t k h half = rw (pow-suc 2 l) (let f : 2 ^ l * (2 * t) ≤ 2 ^ l * s = mul-le-mul_left (2 ^ l) (omega (arith, half)) in let g = mul_assoc (2 ^ l) 2 t in omega (arith, f, g, h))

first_power : (l s k : ℕ) → 2 ^ l * s ≤ k → 0 < s → 2 ^ l ≤ k
first_power l s k h some = let f : 2 ^ l * 1 ≤ 2 ^ l * s = mul-le-mul_left (2 ^ l) (omega (arith, some)) in omega (arith, f, h)

pub halved_more : (k low high low2 high2 l : ℕ) → HasHalved k low high l → low < high → (high2 - low2) * 2 ≤ high - low → HasHalved k low2 high2 (suc l)
halved_more k low high low2 high2 l is some half = record {
  halves = doubled l (high - low) (high2 - low2) k is.halves half;
  last = λ m e. subst (λ j. 2 ^ j ≤ k) (omega (arith, e)) (first_power l (high - low) k is.halves (omega (arith, some)));
}

less_power : (m n : ℕ) → 2 ^ m ≤ 2 ^ n → m ≤ n
less_power m n h = grind (arith, pow_below n m)

pub halved_few : (k low high l : ℕ) → HasHalved k low high l → IsWithinLog 1 k l
halved_few k low high zero is n small = omega arith
halved_few k low high (suc m) is n small = let h = less_power m n (le_trans (is.last m refl) small) in omega (arith, h)

module _ (content now : List ℕ) (same : now ≡ content) (r : Run) (key : List ℕ) (low high m : ℕ) (is : IsSplit content r key low high) where
  pub split_up : is_by key (first_key (page_at now (r.at + m * PAGE_SIZE))) ≡ true → IsSplit content r key (m + 1) high
  split_up begins = record {
    before = λ i e. let at : m ≡ i = omega (arith, e) in
        subst (λ j. begins_by content r j key ≡ true) at (subst (λ f. begins_by f r m key ≡ true) same begins);
    after = is.after;
  }

  pub split_down : is_by key (first_key (page_at now (r.at + m * PAGE_SIZE))) ≡ false → IsSplit content r key low m
  split_down begins = record { before = is.before; after = λ l. subst (λ f. begins_by f r m key ≡ false) same begins }
