-- Why following copies ends: a number for what was reached, that is greater than those of all that are added to it from later steps on.
use Rattle.std.specs.Prelude.{ℕ, zero, suc, ◌+◌, ◌-◌, ◌^◌, ◌≤◌, ◌<◌, ◌≡◌, true, List, [], ◌∷◌, ◌++◌, sum_by, length, take, drop, nat_lt}
use Rattle.std.proofs.Common.{sym, ap, ◌∙◌, arith, length-append}
use Rattle.std.specs.List.{list_all}
use Rattle.std.proofs.lemmas.List.{take_more, take-append-le, drop-append-le}
use Rattle.std.proofs.lemmas.List.Sums.{sum_by-append}
use Rattle.std.proofs.lemmas.Bool.{and_parts}
use Rattle.std.proofs.lemmas.Bool.Decides.{nat_tests}
use Rattle.std.proofs.Math.ListN.{get_or}
use Rattle.std.proofs.Math.Seq.{drop-cons}
use Rattle.cp_uses.specs.declared.reached.Reached.{Reached}
use Rattle.cp_uses.specs.Onward.{AddsLater}

-- so many times a number
abbrev times : ℕ → ℕ → ℕ
times zero n = 0
times (suc k) n = n + times k n

-- with so many steps to come: one more than with one step less for each row
abbrev pub level : ℕ → ℕ → ℕ
level rows zero = 1
level rows (suc n) = suc (times rows (level rows n))

-- of what was reached, where there are so many rows
abbrev pub weight : ℕ → Reached → ℕ
weight rows x = level rows (2 ^ 64 - x.tid)

times-mono : (j k m n : ℕ) → j ≤ k → m ≤ n → times j m ≤ times k n
times-mono zero k m n h g = omega arith
times-mono (suc j) zero m n h g = absurd (omega (arith, h))
times-mono (suc j) (suc k) m n h g = let l = times-mono j k m n (omega (arith, h)) g in omega (arith, g, l)

level-mono : (rows m n : ℕ) → m ≤ n → level rows m ≤ level rows n
level-mono rows zero zero h = omega arith
level-mono rows zero (suc n) h = omega arith
level-mono rows (suc m) zero h = absurd (omega (arith, h))
level-mono rows (suc m) (suc n) h = let k = times-mono rows rows (level rows m) (level rows n) (omega arith) (level-mono rows m n (omega (arith, h))) in omega (arith, k)

-- the first, and the others
pub sum-cons : {X : Type 0} (f : X → ℕ) (x : X) (xs : List X) → sum_by f (x ∷ xs) ≡ f x + sum_by f xs
sum-cons f x xs = let z : 0 + f x ≡ f x = omega arith in sum_by-append f (x ∷ []) xs ∙ ap (λ n. n + sum_by f xs) z

-- those of later steps weigh so much at most
later-light : (rows t n : ℕ) (xs : List Reached) → 2 ^ 64 - t ≤ suc n → list_all (λ y. nat_lt t y.tid) xs ≡ true → sum_by (weight rows) xs ≤ times (length xs) (level rows n)
later-light rows t n [] h a = omega arith
later-light rows t n (x ∷ xs) h a =
    let p = and_parts (nat_lt t x.tid) (list_all (λ y. nat_lt t y.tid) xs) a in
    let l : t < x.tid = (let z : nat_lt t x.tid ≡ true = p.0 in grind (arith, nat_tests)) in
    let one = level-mono rows (2 ^ 64 - x.tid) n (omega (arith, h, l)) in
    let rest = later-light rows t n xs h p.1 in
    let sum = sum-cons (weight rows) x xs in
    omega (arith, one, rest, sum)

module _ (rows : ℕ) (now later : List Reached) (i : ℕ) (x : Reached) (b : i < length now) (is : x ≡ get_or now i x) (n : ℕ) (a : AddsLater x.tid n now later) where
  -- one more is followed
  pub first-more : take (i + 1) later ≡ take i now ++ x ∷ []
  first-more = ap (take (i + 1)) a.kept ∙ take-append-le (i + 1) now a.more (omega (arith, b)) ∙ take_more now i x b ∙ ap (λ y. take i now ++ y ∷ []) (sym is)

  pub later-long : i + 1 ≤ length later
  later-long = let h = ap length a.kept ∙ length-append now a.more in omega (arith, b, h)

  -- and what is left weighs less
  pub left-lighter : n ≤ rows → x.tid < 2 ^ 64 → sum_by (weight rows) (drop (i + 1) later) < sum_by (weight rows) (drop i now)
  left-lighter few fits =
      let m : ℕ = 2 ^ 64 - x.tid - 1 in
      let e : 2 ^ 64 - x.tid ≡ suc m = omega (arith, fits) in
      let old : sum_by (weight rows) (drop i now) ≡ weight rows x + sum_by (weight rows) (drop (suc i) now) = ap (sum_by (weight rows)) (drop-cons now i x b ∙ ap (λ y. y ∷ drop (suc i) now) (sym is)) ∙ sum-cons (weight rows) x (drop (suc i) now) in
      let parts : sum_by (weight rows) (drop (i + 1) later) ≡ sum_by (weight rows) (drop (i + 1) now) + sum_by (weight rows) a.more =
      ap (λ xs. sum_by (weight rows) (drop (i + 1) xs)) a.kept ∙ ap (sum_by (weight rows)) (drop-append-le (i + 1) now a.more (omega (arith, b))) ∙ sum_by-append (weight rows) (drop (i + 1) now) a.more in
      let one : suc i ≡ i + 1 = omega arith in
      let same : sum_by (weight rows) (drop (suc i) now) ≡ sum_by (weight rows) (drop (i + 1) now) = ap (λ m. sum_by (weight rows) (drop m now)) one in
      let light = later-light rows x.tid m a.more (omega (arith, e)) a.later in
      let most : times (length a.more) (level rows m) ≤ times rows (level rows m) = times-mono (length a.more) rows (level rows m) (level rows m) (let f = a.few in omega (arith, f, few)) (omega arith) in
      let w : weight rows x ≡ suc (times rows (level rows m)) = ap (level rows) e in
      omega (arith, old, parts, same, light, most, w)
