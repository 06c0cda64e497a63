-- How many of some entries have a number, and the greatest number that one has.
use Rattle.std.specs.Prelude.{◌≡◌, ◌≢◌, ℕ, ◌+◌, ◌≤◌, ◌<◌, ◌⊎◌, Bool, true, false, cond, ◌==◌, List, [], ◌∷◌, ◌++◌, max, sum_by, refl}
use Rattle.std.proofs.Common.{sym, ap, ◌∙◌, arith, inl, inr}
use Rattle.std.proofs.lemmas.List.Sums.{sum_by-cons}
use Rattle.std.proofs.lemmas.Bool.{cases_lt}
use Rattle.std.proofs.lemmas.Bool.Decides.{nat_tests}
use Rattle.cp_tree.specs.Rows.{greatest}

module _ {X : Type 0} (f : X → ℕ) where
  -- 1 where the number is k
  abbrev pub is_one : ℕ → X → ℕ
  is_one k x = cond (f x == k) 1 0

  -- how many of them have the number k
  abbrev pub counted : ℕ → List X → ℕ
  counted k xs = sum_by (is_one k) xs

  -- the greatest of some and others
  pub greatest-append : (xs ys : List X) → greatest f (xs ++ ys) ≡ max (greatest f xs) (greatest f ys)
  greatest-append [] ys = omega arith
  greatest-append (x ∷ xs) ys = ap (max (f x)) (greatest-append xs ys) ∙ omega arith

  none_counted : (k : ℕ) (x : X) (xs : List X) → counted k (x ∷ xs) ≡ 0 → (f x ≢ k) × (counted k xs ≡ 0)
  none_counted k x xs h =
      let parts : is_one k x + counted k xs ≡ 0 = sym (sum_by-cons (is_one k) x xs) ∙ h in
      (λ e. by (f x == k) (grind (arith, nat_tests)) parts, omega arith)
    where
      by : (b : Bool) → b ≡ true → cond b 1 0 + counted k xs ≡ 0 → ⊥
      by true e p = absurd (omega arith)
      by false e p = absurd (cc)

  -- where none has a number above n, the greatest is at most n
  pub greatest_le : (n : ℕ) (xs : List X) → ((k : ℕ) → n < k → counted k xs ≡ 0) → greatest f xs ≤ n
  greatest_le n [] h = omega arith
  greatest_le n (x ∷ xs) h = elim (cases_lt n (f x)) [
    | inl lt ↦ absurd ((none_counted (f x) x xs (h (f x) lt)).0 refl)
    | inr le ↦ omega (arith, greatest_le n xs (λ k lt. (none_counted k x xs (h k lt)).1))
  ]

  -- where one has the number n, the greatest is at least n
  pub le_greatest : (n : ℕ) (xs : List X) → 0 < counted n xs → n ≤ greatest f xs
  le_greatest n [] h = absurd (omega arith)
  le_greatest n (x ∷ xs) h =
      elim (f x == n) as (λ b. (f x == n) ≡ b → 0 < cond b 1 0 + counted n xs → n ≤ max (f x) (greatest f xs)) [
        | true ↦ λ t _. (let e : f x ≡ n = grind (arith, nat_tests) in omega arith)
        | false ↦ λ _ l. omega (arith, le_greatest n xs (omega arith))
      ] refl (omega (arith, sum_by-cons (is_one n) x xs))

  -- the greatest is the last number that any has, and 0 where none has one
  pub greatest_is : (n : ℕ) (xs : List X) → ((k : ℕ) → n < k → counted k xs ≡ 0) → (n ≡ 0) ⊎ (0 < counted n xs) → greatest f xs ≡ n
  greatest_is n xs h (inl z) = omega (arith, greatest_le n xs h)
  greatest_is n xs h (inr l) = omega (arith, greatest_le n xs h, le_greatest n xs l)
