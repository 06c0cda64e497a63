-- What looks at pages keep, and what they read.
use Rattle.std.proofs.Common.{rules, ◌≡◌, ℕ, zero, suc, ◌≤◌, Bool, true, false, List, [], ◌∷◌, length, take, nat_eq, refl, sym, ◌∙◌, arith, inl, inr, true≢false, take-take, take_all}
use Rattle.cp_page.proofs.Firsts.{case_of}
use Rattle.cp_run.specs.Looks.{without, after_looks, is_among, pages_read, KeepsTheLast, ReadsOnce}

among-more : (m q : ℕ) (ks : List ℕ) → is_among q (take m ks) ≡ true → is_among q (take (suc m) ks) ≡ true
among-more zero q ks h = cc
among-more (suc m) q [] h = cc
among-more (suc m) q (k ∷ ks) h = elim (case_of (nat_eq q k)) [
  | inl same ↦ rw same
  | inr other ↦ rw other (among-more m q ks (rw other at h))
]

among-take : (m q : ℕ) (ks : List ℕ) → is_among q (take m ks) ≡ true → is_among q ks ≡ true
among-take zero q ks h = cc
among-take (suc m) q [] h = cc
among-take (suc m) q (k ∷ ks) h = elim (case_of (nat_eq q k)) [
  | inl same ↦ rw same
  | inr other ↦ rw other (among-take m q ks (rw other at h))
]

same_page : (p q k : ℕ) → nat_eq q p ≡ false → nat_eq p k ≡ true → nat_eq q k ≡ false
same_page p q k differs same = grind arith

-- another page than the one that is taken away stays
among-without : (m p q : ℕ) (ks : List ℕ) → nat_eq q p ≡ false → is_among q (take m ks) ≡ true → is_among q (take m (without p ks)) ≡ true
among-without zero p q ks differs h = cc
among-without (suc m) p q [] differs h = cc
among-without (suc m) p q (k ∷ ks) differs h = elim (case_of (nat_eq p k)) [
  | inl same ↦ rw same (among-more m q ks (rw (same_page p q k differs same) at h))
  | inr gone ↦ rw gone (elim (case_of (nat_eq q k)) [
    | inl same ↦ rw same
    | inr other ↦ rw other (among-without m p q ks differs (rw other at h))
  ])
]

kept_in_front : (m n : ℕ) (ps kept : List ℕ) (p : ℕ) → m ≤ n → is_among p (take m ps) ≡ true → is_among p (take m (after_looks n ps kept)) ≡ true
kept_in_front zero n ps kept p few h = cc
kept_in_front (suc m) n [] kept p few h = cc
kept_in_front (suc m) zero (q ∷ ps) kept p few h = absurd (omega (arith, few))
kept_in_front (suc m) (suc n) (q ∷ ps) kept p few h =
    let front : take m (take n (without q (after_looks (suc n) ps kept))) ≡ take m (without q (after_looks (suc n) ps kept)) = search (rules, arith, take-take) in
    elim (case_of (nat_eq p q)) [
      | inl same ↦ rw same
      | inr other ↦ rw (other, front) (among-without m q p (after_looks (suc n) ps kept) other (kept_in_front m (suc n) ps kept p (omega (arith, few)) (rw other at h)))
    ]

pub keeps_the_last : KeepsTheLast
keeps_the_last n ps kept p h = among-take n p (after_looks n ps kept) (kept_in_front n n ps kept p (omega arith) h)

read_looked : (n : ℕ) (ps kept : List ℕ) (q : ℕ) → is_among q (pages_read n ps kept) ≡ true → is_among q ps ≡ true
read_looked n [] kept q h = cc
read_looked n (p ∷ ps) kept q h = elim (case_of (nat_eq q p)) [
  | inl same ↦ rw same
  | inr other ↦ rw other (elim (case_of (is_among p (after_looks n ps kept))) [
    | inl had ↦ read_looked n ps kept q (rw had at h)
    | inr new ↦ read_looked n ps kept q (rw (new, other) at h)
  ])
]

not_read : (n : ℕ) (ps kept : List ℕ) (q : ℕ) → length ps ≤ n → is_among q (after_looks n ps kept) ≡ false → (b : Bool) → is_among q (pages_read n ps kept) ≡ b → b ≡ false
not_read n ps kept q few gone false h = refl
not_read n ps kept q few gone true h =
    let whole : take n ps ≡ ps = take_all n ps few in
    let had = keeps_the_last n ps kept q (rw whole (read_looked n ps kept q h)) in
    absurd (true≢false (sym had ∙ gone))

pub reads_once : ReadsOnce
reads_once n [] kept few = tt
reads_once n (p ∷ ps) kept few = elim (case_of (is_among p (after_looks n ps kept))) [
  | inl had ↦ rw had (reads_once n ps kept (omega (arith, few)))
  | inr new ↦ rw new (not_read n ps kept p (omega (arith, few)) new (is_among p (pages_read n ps kept)) refl, reads_once n ps kept (omega (arith, few)))
]
