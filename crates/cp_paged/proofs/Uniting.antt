-- Tids of two lists as one.
use Rattle.std.proofs.Common.{ℕ, ◌<◌, ◌≡◌, inl, inr, Bool, true, false, refl, sym, ap, subst, ◌∙◌, arith, eqb}
use Rattle.std.proofs.lemmas.Bool.Decides.{nat_tests}
use Rattle.std.proofs.lemmas.Cmp.{nat_cmp_total}
use Rattle.std.proofs.lemmas.List.Folds.{list_any-append}
use Rattle.std.proofs.lemmas.List.Kept.{IsStrictlySortedBy-dedup}
use Rattle.std.proofs.lemmas.List.Sorted.{list_any-IsPermutation}
use Rattle.std.specs.Prelude.{List, [], ◌∷◌, ◌++◌, ◌==◌, ◌||◌}
use Rattle.std.specs.List.{AllByRecursion, dedup, dedup_from}
use Rattle.std.specs.List.Sorted.{IsSorted, IsPermutation, IsStrictlySortedBy}
use Rattle.std.specs.Ordering.{nat_cmp}
use Rattle.std.specs.Cmp.{unsigned_tied}
use Rattle.std.specs.declared.cmp.Ordering.TheVariants.{Less}
use Rattle.cp_store.specs.Lost.{AreRisingTids}
use Rattle.cp_paged.specs.Listing.{is_tid}
use Rattle.cp_store.proofs.RowsTold.{case_of}

number_same : (u t : ℕ) → (u == t) ≡ true → u ≡ t
number_same u t e = grind (arith, nat_tests)

less_is : (x y : ℕ) → nat_cmp x y ≡ Less → x < y
less_is x y e = grind arith

all_less : (x : ℕ) (ys : List ℕ) → AllByRecursion (λ y. nat_cmp x y ≡ Less) ys → AllByRecursion (λ y. x < y) ys
all_less x [] h = tt
all_less x (y ∷ ys) h = (less_is x y h.0, all_less x ys h.1)

-- Tids that are sorted strictly rise
rising_is : (ts : List ℕ) → IsStrictlySortedBy nat_cmp ts → AreRisingTids ts
unfolding IsStrictlySortedBy
rising_is [] h = tt
rising_is (t ∷ ts) h = (all_less t ts h.0, rising_is ts h.1)

pub united-rise : (ts out : List ℕ) → IsSorted nat_cmp ts → out ≡ dedup eqb ts → AreRisingTids out
united-rise ts out h e = subst AreRisingTids (sym e) (rising_is (dedup eqb ts) (IsStrictlySortedBy-dedup nat_cmp_total (λ x y. sym (unsigned_tied x y)) ts h))

twice : (b c : Bool) → (b || (b || c)) ≡ (b || c)
twice true c = refl
twice false c = refl

dedup_keeps_from : (t k : ℕ) (ts : List ℕ) → is_tid t (dedup_from eqb k ts) ≡ ((k == t) || is_tid t ts)
dedup_keeps_from t k [] = refl
dedup_keeps_from t k (x ∷ ts) = elim (case_of (eqb x k)) [
  | inl same ↦
      let is : x ≡ k = number_same x k same in
      rw same (dedup_keeps_from t k ts ∙ sym (ap (λ y. (k == t) || ((y == t) || is_tid t ts)) is ∙ twice (k == t) (is_tid t ts)))
  | inr other ↦ rw other (ap (λ b. (k == t) || b) (dedup_keeps_from t x ts))
]

dedup_keeps : (t : ℕ) (ts : List ℕ) → is_tid t (dedup eqb ts) ≡ is_tid t ts
dedup_keeps t [] = refl
dedup_keeps t (x ∷ ts) = dedup_keeps_from t x ts

pub united-all : (xs ys sorted out : List ℕ) → IsPermutation (xs ++ ys) sorted → out ≡ dedup eqb sorted → (t : ℕ) → is_tid t out ≡ (is_tid t xs || is_tid t ys)
united-all xs ys sorted out h e t =
    ap (is_tid t) e
    ∙ dedup_keeps t sorted
    ∙ sym (list_any-IsPermutation (λ u. u == t) (xs ++ ys) sorted h)
    ∙ list_any-append (λ u. u == t) xs ys
