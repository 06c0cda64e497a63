-- Elements of lists, and keys that rise.
use Rattle.std.proofs.Common.{arith, ℕ, suc, zero, ◌+◌, ◌≡◌, ◌⊎◌, inl, inr, Bool, true, false, true≢false, refl, sym, ap, subst, ◌∙◌, List, [], ◌∷◌, map, get_or, Ordering, Less, Equal, Greater}
use Rattle.std.specs.Prelude.{◌&&◌, filter, IsSortedByKey}
use Rattle.std.specs.List.{list_all, Contains, AllByRecursion, IsDistinct}
use Rattle.std.specs.Ordering.{is_le, is_lt, ordering_reverse}
use Rattle.std.specs.Cmp.Lexicographic.{nat_list_cmp_total, nat_list_eq_equiv, bytes_decides}
use Rattle.std.specs.declared.option.Option.{Option}
use Rattle.std.specs.declared.option.Option.TheVariants.{None, Some}
use Rattle.std.proofs.lemmas.Map.Keys.{IsDistinct-IsPermutation}
use Rattle.std.proofs.lemmas.Map.Lookups.{exact_bytes}
use Rattle.std.proofs.lemmas.List.Sorted.{Contains-permutation, IsPermutation-map, IsPermutation-sym}
use Rattle.cp_path.specs.Text.{text_cmp, text_eq}
use Rattle.cp_page.specs.declared.row.PageRow.{PageRow}
use Rattle.cp_paged.specs.Held.{HasEachOnce}
use Rattle.cp_run.specs.Answers.{IsGreatest, IsBetween}
use Rattle.cp_page.specs.Ranges.{rows_between}
use Rattle.cp_store.proofs.RowsTold.{case_of}

-- ---- elements

-- the element is one of these
abbrev pub IsAmong : {X : Type 0} → X → List X → Type 0
IsAmong x [] = ⊥
IsAmong x (y ∷ ys) = (y ≡ x) ⊎ IsAmong x ys

pub among : {X : Type 0} (x : X) (xs : List X) → Contains xs x → IsAmong x xs
among x [] h = let l = h.1 in absurd (omega (arith, l))
among x (y ∷ ys) (zero, l, is) = inl is
among x (y ∷ ys) (suc i, l, is) = inr (among x ys (i, omega (arith, l), is))

pub contained : {X : Type 0} (x : X) (xs : List X) → IsAmong x xs → Contains xs x
contained x [] is = absurd is
contained x (y ∷ ys) (inl same) = (0, omega arith, same)
contained x (y ∷ ys) (inr is) = let h = contained x ys is in let l = h.1 in (suc h.0, omega (arith, l), h.2)

pub of_all : {X : Type 0} (P : X → Type 0) (xs : List X) → AllByRecursion P xs → (x : X) → IsAmong x xs → P x
of_all P [] all x is = absurd is
of_all P (y ∷ ys) all x (inl same) = subst P same all.0
of_all P (y ∷ ys) all x (inr is) = of_all P ys all.1 x is

first_part : (a b : Bool) → (a && b) ≡ true → a ≡ true
first_part true b e = refl
first_part false b e = absurd (cc)

second_part : (a b : Bool) → (a && b) ≡ true → b ≡ true
second_part true b e = e
second_part false b e = absurd (cc)

-- what a test leaves passes it
pub of_filter : (f : PageRow → Bool) (xs : List PageRow) (x : PageRow) → IsAmong x (filter f xs) → IsAmong x xs × (f x ≡ true)
of_filter f [] x is = absurd is
of_filter f (y ∷ ys) x is = elim (case_of (f y)) [
  | inl passes ↦ by_head passes (λ k. of_filter f ys x k) (rw passes at is)
  | inr fails ↦ let on = of_filter f ys x (rw fails at is) in (inr on.0, on.1)
]
  where
    by_head : f y ≡ true → (IsAmong x (filter f ys) → IsAmong x ys × (f x ≡ true)) → (y ≡ x) ⊎ IsAmong x (filter f ys) → IsAmong x (y ∷ ys) × (f x ≡ true)
    by_head passes more (inl same) = (inl same, subst (λ z. f z ≡ true) same passes)
    by_head passes more (inr is) = let on = more is in (inr on.0, on.1)

pub to_filter : (f : PageRow → Bool) (xs : List PageRow) (x : PageRow) → IsAmong x xs → f x ≡ true → IsAmong x (filter f xs)
to_filter f [] x is e = is
to_filter f (y ∷ ys) x (inl same) e = rw (subst (λ z. f z ≡ true) (sym same) e) (inl same)
to_filter f (y ∷ ys) x (inr is) e = elim (case_of (f y)) [
  | inl passes ↦ rw passes (inr (to_filter f ys x is e))
  | inr fails ↦ rw fails (to_filter f ys x is e)
]

-- ---- the same by recursion

-- of these rows, that with the greatest key that isn't above
unfoldable pub IsTop : List ℕ → List PageRow → Option PageRow → Type 0
IsTop key rows None = (r : PageRow) → IsAmong r rows → is_le (text_cmp r.key key) ≡ false
IsTop key rows (Some f) = IsAmong f rows × (is_le (text_cmp f.key key) ≡ true) × ((r : PageRow) → IsAmong r rows → is_le (text_cmp r.key key) ≡ true → is_le (text_cmp r.key f.key) ≡ true)

-- each key is below those that follow it
abbrev pub RiseByKey : List PageRow → Type 0
RiseByKey [] = Unit {0}
RiseByKey (r ∷ rs) = (list_all (λ s. is_lt (text_cmp r.key s.key)) rs ≡ true) × RiseByKey rs

-- of these rows, all those whose keys aren't below the one or above the other, rising
pub record AreWithin (low high : List ℕ) (rows found : List PageRow) : Type 0 where
  pub rise : RiseByKey found
  pub inside : (r : PageRow) → IsAmong r found → IsAmong r rows × (is_le (text_cmp low r.key) ≡ true) × (is_le (text_cmp r.key high) ≡ true)
  pub all : (r : PageRow) → IsAmong r rows → is_le (text_cmp low r.key) ≡ true → is_le (text_cmp r.key high) ≡ true → IsAmong r found

-- the greatest of rows that are stored is that of those that are wanted
pub top-of : (key : List ℕ) (stored wanted : List PageRow) (o : Option PageRow) → HasEachOnce stored wanted → IsGreatest key stored o → IsTop key wanted o
unfolding IsTop
top-of key stored wanted None same h = λ r is. h r (same.each r (contained r wanted is))
top-of key stored wanted (Some f) same h = (among f wanted (same.no_other f h.0), h.1, λ r is le. h.2 r (same.each r (contained r wanted is)) le)

-- ---- rows that are sorted, and whose keys differ, rise

less : (o : Ordering) → is_lt o ≡ true → o ≡ Less
less Less h = refl
less Equal h = cc
less Greater h = cc

lt_trans : (x y z : List ℕ) → is_lt (text_cmp x y) ≡ true → is_lt (text_cmp y z) ≡ true → is_lt (text_cmp x z) ≡ true
lt_trans x y z a b = ap is_lt (nat_list_cmp_total.trans x y z (less (text_cmp x y) a) (less (text_cmp y z) b))

-- of two keys that differ, one of which isn't below the other
pub above_is : (x y : List ℕ) → is_lt (text_cmp y x) ≡ false → text_eq x y ≡ false → is_lt (text_cmp x y) ≡ true
above_is x y low other = by_order (text_cmp x y) refl
  where
    by_order : (o : Ordering) → text_cmp x y ≡ o → is_lt (text_cmp x y) ≡ true
    by_order Less e = ap is_lt e
    by_order Equal e = absurd (true≢false (sym ((bytes_decides x y).1 (exact_bytes x y e)) ∙ other))
    by_order Greater e = absurd (true≢false (sym (ap is_lt (nat_list_cmp_total.antisymm y x ∙ ap ordering_reverse e)) ∙ low))

below_all : (a k : List ℕ) (rs : List PageRow) → is_lt (text_cmp a k) ≡ true → list_all (λ s. is_lt (text_cmp k s.key)) rs ≡ true → list_all (λ s. is_lt (text_cmp a s.key)) rs ≡ true
below_all a k [] lt e = refl
below_all a k (s ∷ rs) lt e =
    let here : is_lt (text_cmp a s.key) ≡ true = lt_trans a k s.key lt (first_part (is_lt (text_cmp k s.key)) (list_all (λ s. is_lt (text_cmp k s.key)) rs) e) in
    rw here (below_all a k rs lt (second_part (is_lt (text_cmp k s.key)) (list_all (λ s. is_lt (text_cmp k s.key)) rs) e))

rise_of : (rs : List PageRow) → IsSortedByKey (λ r. r.key) text_cmp rs → IsDistinct text_eq (map (λ r. r.key) rs) → RiseByKey rs
unfolding IsDistinct
rise_of [] s d = tt
rise_of (r ∷ []) s d = (refl, tt)
rise_of (r ∷ q ∷ rs) s d =
    let on = rise_of (q ∷ rs) (λ k x low high.
    let step : suc k + 1 ≡ suc (k + 1) = omega arith in
    subst (λ n. is_lt (text_cmp (get_or (r ∷ q ∷ rs) n x).key (get_or (q ∷ rs) k x).key) ≡ false) step (s (suc k) x (omega arith) (omega (arith, high)))) d.1 in
    let next : is_lt (text_cmp r.key q.key) ≡ true = above_is r.key q.key (s 0 r (omega arith) (omega arith)) d.0.0 in
    (rw next (below_all r.key q.key rs next on.0), on)

module _ (low high : List ℕ) where
  all_differ : (k : List ℕ) (rows : List PageRow) → AllByRecursion (λ y. text_eq k y ≡ false) (map (λ r. r.key) rows) → AllByRecursion (λ y. text_eq k y ≡ false) (map (λ r. r.key) (rows_between low high rows))
  all_differ k [] all = tt
  all_differ k (r ∷ rows) all = elim (case_of (is_le (text_cmp low r.key) && is_le (text_cmp r.key high))) [
    | inl is ↦ rw is (all.0, all_differ k rows all.1)
    | inr off ↦ rw off (all_differ k rows all.1)
  ]

  -- rows between two keys have keys that differ, where all have
  pub distinct-between : (rows : List PageRow) → IsDistinct text_eq (map (λ r. r.key) rows) → IsDistinct text_eq (map (λ r. r.key) (rows_between low high rows))
  unfolding IsDistinct
  distinct-between [] d = tt
  distinct-between (r ∷ rows) d = elim (case_of (is_le (text_cmp low r.key) && is_le (text_cmp r.key high))) [
    | inl is ↦ rw is (all_differ r.key rows d.0, distinct-between rows d.1)
    | inr off ↦ rw off (distinct-between rows d.1)
  ]

  -- what lies between two keys, of rows that hold the wanted ones each once
  pub within-of : (stored wanted found : List PageRow) → HasEachOnce stored wanted → IsBetween low high stored found → AreWithin low high wanted found
  within-of stored wanted found same h =
      let keys : IsDistinct text_eq (map (λ r. r.key) (rows_between low high stored)) = distinct-between stored same.once in
      record {
        rise = rise_of found h.sorted (IsDistinct-IsPermutation text_eq nat_list_eq_equiv.symm (map (λ r. r.key) (rows_between low high stored)) (map (λ r. r.key) found) (IsPermutation-map (λ r. r.key) (rows_between low high stored) found h.same) keys);
        inside = λ r is.
            let back = among r (rows_between low high stored) (Contains-permutation found (rows_between low high stored) r (IsPermutation-sym (rows_between low high stored) found h.same) (contained r found is)) in
            let both = of_filter (λ r. is_le (text_cmp low r.key) && is_le (text_cmp r.key high)) stored r back in
            (among r wanted (same.no_other r (contained r stored both.0)), first_part (is_le (text_cmp low r.key)) (is_le (text_cmp r.key high)) both.1, second_part (is_le (text_cmp low r.key)) (is_le (text_cmp r.key high)) both.1);
        all = λ r is a b.
            let here = to_filter (λ r. is_le (text_cmp low r.key) && is_le (text_cmp r.key high)) stored r (among r stored (same.each r (contained r wanted is))) (rw (a, b) refl) in
            among r found (Contains-permutation (rows_between low high stored) found r h.same (contained r (rows_between low high stored) here));
      }
