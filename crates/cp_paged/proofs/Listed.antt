-- Tids that rise, by which they are.
use Rattle.std.proofs.Common.{ℕ, suc, zero, ◌<◌, ◌≤◌, ◌≡◌, inl, inr, Bool, true, false, cond, refl, sym, ap, subst, ◌∙◌, arith}
use Rattle.std.proofs.lemmas.Bool.Decides.{nat_tests}
use Rattle.std.specs.Prelude.{List, [], ◌∷◌, ◌++◌, map, filter, ◌==◌, ◌&&◌, ◌||◌, nat_lt, if◌then◌else◌}
use Rattle.std.specs.List.{list_all, list_any, AllByRecursion}
use Rattle.cp_model.specs.Place.{Path}
use Rattle.cp_model.specs.Past.{Event, lost}
use Rattle.cp_model.specs.Leaps.{losts, lost_at as event_at}
use Rattle.cp_model.specs.Answers.{tid_of}
use Rattle.cp_store.specs.Lost.{is_within, AreRisingTids}
use Rattle.cp_paged.specs.Listing.{is_tid, Lists}
use Rattle.cp_store.proofs.RowsTold.{case_of}

number_same : (u t : ℕ) → (u == t) ≡ true → u ≡ t
number_same u t e = grind (arith, nat_tests)

inside : (low high t : ℕ) → low < t → t ≤ high → is_within low high t ≡ true
inside low high t lt le = grind (arith, nat_tests)

outside_low : (low high t : ℕ) → t ≤ low → is_within low high t ≡ false
outside_low low high t le = grind (arith, nat_tests)

outside_high : (low high t : ℕ) → high < t → is_within low high t ≡ false
outside_high low high t lt = grind (arith, nat_tests)

outside_all : (low high t : ℕ) → high ≤ low → is_within low high t ≡ false
outside_all low high t le = grind (arith, nat_tests)

within_alike : (low t u : ℕ) → (u == suc t) ≡ false → is_within low (suc t) u ≡ is_within low t u
within_alike low t u e = grind (arith, nat_tests)

-- an element that passes a test, or doesn't
filter_one : (p : ℕ → Bool) (t : ℕ) (ts : List ℕ) (b : Bool) → p t ≡ b → filter p (t ∷ ts) ≡ cond b (t ∷ filter p ts) (filter p ts)
filter_one p t ts b e = ap (λ b. cond b (t ∷ filter p ts) (filter p ts)) e

none_within : (low high : ℕ) (ts : List ℕ) → high ≤ low → filter (is_within low high) ts ≡ []
none_within low high [] le = refl
none_within low high (t ∷ ts) le = filter_one (is_within low high) t ts false (outside_all low high t le) ∙ none_within low high ts le

none_above : (low high s : ℕ) (ts : List ℕ) → high ≤ s → AllByRecursion (λ u. s < u) ts → filter (is_within low high) ts ≡ []
none_above low high s [] le h = refl
none_above low high s (t ∷ ts) le h =
    let first = h.0 in
    filter_one (is_within low high) t ts false (outside_high low high t (omega (arith, first, le))) ∙ none_above low high s ts le h.1

-- one step more
within_more : (low t : ℕ) (ts : List ℕ) → low < suc t → AreRisingTids ts → filter (is_within low (suc t)) ts ≡ filter (is_within low t) ts ++ (if list_any (λ u. u == suc t) ts then suc t ∷ [] else [])
within_more low t [] lt h = refl
within_more low t (u ∷ ts) lt h =
    elim (u == suc t) as (λ b. (u == suc t) ≡ b → filter (is_within low (suc t)) (u ∷ ts) ≡ filter (is_within low t) (u ∷ ts) ++ (if b || list_any (λ u. u == suc t) ts then suc t ∷ [] else [])) [
      | true ↦ λ e.
          let same = number_same u (suc t) e in
          filter_one (is_within low (suc t)) u ts true (inside low (suc t) u (omega (arith, same, lt)) (omega (arith, same)))
          ∙ ap (λ (l : List ℕ). u ∷ l) (none_above low (suc t) u ts (omega (arith, same)) h.0)
          ∙ ap (λ x. x ∷ []) same
          ∙ sym (ap (λ l. l ++ suc t ∷ []) (filter_one (is_within low t) u ts false (outside_high low t u (omega (arith, same))) ∙ none_above low t u ts (omega (arith, same)) h.0))
      | false ↦ λ e.
          let more = within_more low t ts lt h.1 in
          filter_one (is_within low (suc t)) u ts (is_within low t u) (within_alike low t u e)
          ∙ ap (λ (l : List ℕ). cond (is_within low t u) (u ∷ l) l) more
          ∙ elim (is_within low t u) as (λ b. cond b (u ∷ filter (is_within low t) ts ++ (if list_any (λ u. u == suc t) ts then suc t ∷ [] else [])) (filter (is_within low t) ts ++ (if list_any (λ u. u == suc t) ts then suc t ∷ [] else []))
          ≡ cond b (u ∷ filter (is_within low t) ts) (filter (is_within low t) ts) ++ (if list_any (λ u. u == suc t) ts then suc t ∷ [] else [])) [ true ↦ refl | false ↦ refl ]
    ] refl

tids_append : (es fs : List Event) → map tid_of (es ++ fs) ≡ map tid_of es ++ map tid_of fs
tids_append [] fs = refl
tids_append (e ∷ es) fs = ap (λ ts. tid_of e ∷ ts) (tids_append es fs)

number_less : (a b : ℕ) → nat_lt a b ≡ true → a < b
number_less a b e = grind (arith, nat_tests)

number_no_less : (a b : ℕ) → nat_lt a b ≡ false → b ≤ a
number_no_less a b e = grind (arith, nat_tests)

-- the losses after low up to high are those of the Tids that lie there
losts-within : (L : ℕ → Path → Bool) (p : Path) (ts : List ℕ) (low high : ℕ) → AreRisingTids ts → ((t : ℕ) → list_any (λ u. u == t) ts ≡ L t p) → filter (is_within low high) ts ≡ map tid_of (losts L low high p)
unfolding losts
losts-within L p ts low zero h f = none_within low zero ts (omega arith)
losts-within L p ts low (suc t) h f =
    elim (nat_lt low (suc t)) as (λ b. nat_lt low (suc t) ≡ b → filter (is_within low (suc t)) ts ≡ map tid_of (cond b (losts L low t p ++ event_at L (suc t) p) [])) [
      | true ↦ λ e.
          within_more low t ts (number_less low (suc t) e) h
          ∙ ap (λ l. l ++ (if list_any (λ u. u == suc t) ts then suc t ∷ [] else [])) (losts-within L p ts low t h f)
          ∙ ap (λ b. map tid_of (losts L low t p) ++ (if b then suc t ∷ [] else [])) (f (suc t))
          ∙ ap (λ l. map tid_of (losts L low t p) ++ l) (one (L (suc t) p))
          ∙ sym (tids_append (losts L low t p) (event_at L (suc t) p))
      | false ↦ λ e. none_within low (suc t) ts (number_no_less low (suc t) e)
    ] refl
  where
    one : (b : Bool) → (if b then suc t ∷ [] else []) ≡ map tid_of (if b then lost (suc t) ∷ [] else [])
    one true = refl
    one false = refl

-- ---- tests that agree within

inside-is : (low high t : ℕ) → is_within low high t ≡ true → (low < t) × (t ≤ high)
inside-is low high t h = (grind (arith, nat_tests), grind (arith, nat_tests))

pub losts-agree : (L M : ℕ → Path → Bool) (p : Path) (low high : ℕ) → ((t : ℕ) → low < t → t ≤ high → L t p ≡ M t p) → losts L low high p ≡ losts M low high p
unfolding losts
losts-agree L M p low zero h = refl
losts-agree L M p low (suc t) h = elim (case_of (nat_lt low (suc t))) [
  | inl in_range ↦
      let on = losts-agree L M p low t (λ u more few. h u more (omega (arith, few))) in
      let here = h (suc t) (number_less low (suc t) in_range) (omega arith) in
      rw (in_range, here, on) refl
  | inr off ↦ rw off refl
]

keep_all : (f : ℕ → Bool) (ts : List ℕ) → ((t : ℕ) → is_tid t ts ≡ true → f t ≡ true) → filter f ts ≡ ts
keep_all f [] h = refl
keep_all f (t ∷ ts) h =
    let self : (t == t) ≡ true = grind (arith, nat_tests) in
    let here : f t ≡ true = h t (ap (λ b. b || is_tid t ts) self) in
    let on = keep_all f ts (λ u is. h u (later (t == u) (is_tid u ts) is)) in
    ap (λ b. cond b (t ∷ filter f ts) (filter f ts)) here ∙ ap (λ (l : List ℕ). t ∷ l) on
  where
    later : (a b : Bool) → b ≡ true → (a || b) ≡ true
    later true b e = refl
    later false b e = e

pub first_part : (a b : Bool) → (a && b) ≡ true → a ≡ true
first_part true b e = refl
first_part false b e = absurd (cc)

both_on : (a b : Bool) → a ≡ true → b ≡ (a && b)
both_on true b e = refl
both_on false b e = absurd (cc)

-- Tids that rise, and are the steps in a range that pass, are those that are listed
pub tids-are : (L : ℕ → Path → Bool) (p : Path) (low high : ℕ) (ts : List ℕ) → Lists (λ t. L t p) low high ts → ts ≡ map tid_of (losts L low high p)
tids-are L p low high ts h =
    sym (keep_all (is_within low high) ts (λ t is. first_part (is_within low high t) (L t p) (sym (h.all t) ∙ is)))
    ∙ losts-within (λ t q. is_within low high t && L t q) p ts low high h.rise h.all
    ∙ ap (map tid_of) (losts-agree (λ t q. is_within low high t && L t q) L p low high (λ t more few. sym (both_on (is_within low high t) (L t p) (inside low high t more few))))

-- all pass where each does
pub all_pass : (f : ℕ → Bool) (ts : List ℕ) → ((t : ℕ) → is_tid t ts ≡ true → f t ≡ true) → list_all f ts ≡ true
all_pass f [] h = refl
all_pass f (t ∷ ts) h =
    let self : (t == t) ≡ true = grind (arith, nat_tests) in
    let here : f t ≡ true = h t (ap (λ b. b || is_tid t ts) self) in
    let on = all_pass f ts (λ u is. h u (later (t == u) (is_tid u ts) is)) in
    rw (here, on) refl
  where
    later : (a b : Bool) → b ≡ true → (a || b) ≡ true
    later true b e = refl
    later false b e = e

-- each passes where all do
pub each_passes : (f : ℕ → Bool) (ts : List ℕ) → list_all f ts ≡ true → (t : ℕ) → is_tid t ts ≡ true → f t ≡ true
each_passes f [] h t is = absurd (cc)
each_passes f (u ∷ ts) h t is = elim (case_of (u == t)) [
  | inl same ↦ subst (λ x. f x ≡ true) (number_same u t same) (first_part (f u) (list_all f ts) h)
  | inr other ↦ each_passes f ts (second (f u) (list_all f ts) h) t (rw other at is)
]
  where
    second : (a b : Bool) → (a && b) ≡ true → b ≡ true
    second true b e = e
    second false b e = absurd (cc)
