-- The steps in which a place went whole, from the last on.
use Rattle.std.proofs.Common.{ℕ, suc, ◌+◌, ◌-◌, ◌<◌, ◌≤◌, ◌≡◌, ◌⊎◌, inl, inr, Bool, true, false, true≢false, refl, sym, ap, subst, ◌∙◌, arith}
use Rattle.std.proofs.lemmas.Bool.Decides.{nat_tests}
use Rattle.std.proofs.lemmas.List.Folds.{list_any-append}
use Rattle.std.proofs.lemmas.List.{append-nil}
use Rattle.std.specs.Prelude.{List, [], ◌∷◌, ◌++◌, ◌==◌, ◌&&◌, ◌||◌, ◌*◌, if◌then◌else◌}
use Rattle.std.specs.declared.option.Option.TheVariants.{None, Some}
use Rattle.cp_model.specs.Place.{Path}
use Rattle.cp_model.specs.Records.{is_D, loses}
use Rattle.cp_model.specs.declared.kind.Kind.TheVariants as kind
use Rattle.cp_model.specs.declared.record.Record.{Record}
use Rattle.cp_store.specs.Costs.{has_row, rows_within}
use Rattle.cp_store.specs.Lost.{is_within}
use Rattle.cp_paged.specs.Listing.{is_tid, is_gone, goes_whole, NeverGone}
use Rattle.cp_paged.specs.Newest.{mark_of_row, IsNewestRow, IsRowAt}
use Rattle.cp_paged.specs.declared.places.PlaceRow.{PlaceRow}
use Rattle.cp_store.proofs.RowsTold.{case_of}
use Rattle.cp_paged.proofs.RowsFound.{row-there}
use Rattle.cp_paged.proofs.Passed.{within_more}
use Rattle.cp_paged.proofs.Spending.{one_of, one_more_of}

-- ---- Tids and tests

apart_and : (a b : Bool) → b ≡ false → (a && b) ≡ false
apart_and true b e = e
apart_and false b e = refl

within_same : (low to high t : ℕ) → low ≤ to → to ≤ high → ((low < t) → (t ≤ to) → ⊥) → is_within to high t ≡ is_within low high t
within_same low to high t le few off = grind (arith, nat_tests)

-- a wider range, in which no more pass
pub widen : (g : ℕ → Bool) (low to high : ℕ) → low ≤ to → to ≤ high → ((t : ℕ) → low < t → t ≤ to → g t ≡ false) → (t : ℕ) → (is_within to high t && g t) ≡ (is_within low high t && g t)
widen g low to high le few off t = elim (case_of (g t)) [
  | inl is ↦ ap (λ b. b && g t) (within_same low to high t le few (λ more less. true≢false (sym is ∙ off t more less)))
  | inr is_not ↦ apart_and (is_within to high t) (g t) is_not ∙ sym (apart_and (is_within low high t) (g t) is_not)
]

none_at : (high t : ℕ) → is_within high high t ≡ false
none_at high t = grind (arith, nat_tests)

-- no Tids yet
pub none-yet : (g : ℕ → Bool) (high t : ℕ) → is_tid t [] ≡ (is_within high high t && g t)
none-yet g high t = rw (none_at high t) refl

past_end : (low to high t : ℕ) → to ≤ low → (to < low → to ≡ high) → is_within to high t ≡ is_within low high t
past_end low to high t le whole = elim (cases to low le) [
  | inl less ↦ let e = whole less in (grind (arith, nat_tests))
  | inr same ↦ ap (λ n. is_within n high t) same
]
  where
    cases : (a b : ℕ) → a ≤ b → (a < b) ⊎ (a ≡ b)
    cases a b le = grind arith

pub end-all : (g : ℕ → Bool) (low to high : ℕ) (ts : List ℕ) → to ≤ low → (to < low → to ≡ high) → ((t : ℕ) → is_tid t ts ≡ (is_within to high t && g t)) → (t : ℕ) → is_tid t ts ≡ (is_within low high t && g t)
end-all g low to high ts le whole h t = h t ∙ ap (λ b. b && g t) (past_end low to high t le whole)

is_same : (d t : ℕ) → (d == t) ≡ true → d ≡ t
is_same d t e = grind (arith, nat_tests)

is_other : (d t : ℕ) → (d == t) ≡ false → d ≡ t → ⊥
is_other d t e = grind (arith, nat_tests)

in_at : (d high : ℕ) → 0 < d → d ≤ high → is_within (d - 1) high d ≡ true
in_at d high pos le = grind (arith, nat_tests)

or_false : (b : Bool) → (b || false) ≡ b
or_false true = refl
or_false false = refl

or_true : (b : Bool) → (b || true) ≡ true
or_true true = refl
or_true false = refl

-- one Tid more, that passes
pub one-tid : (g : ℕ → Bool) (d to high : ℕ) (ts : List ℕ) → 0 < d → d ≤ to → to ≤ high → g d ≡ true → ((t : ℕ) → d < t → t ≤ to → g t ≡ false)
    → ((t : ℕ) → is_tid t ts ≡ (is_within to high t && g t)) → (t : ℕ) → is_tid t (ts ++ d ∷ []) ≡ (is_within (d - 1) high t && g t)
one-tid g d to high ts pos le few is off h t = elim (case_of (d == t)) [
  | inl same ↦
      let e : d ≡ t = is_same d t same in
      list_any-append (λ u. u == t) ts (d ∷ []) ∙ ap (λ b. is_tid t ts || (b || false)) same ∙ or_true (is_tid t ts)
      ∙ sym (subst (λ x. (is_within (d - 1) high x && g x) ≡ true) e (rw (in_at d high pos (omega (arith, le, few)), is) refl))
  | inr other ↦
      list_any-append (λ u. u == t) ts (d ∷ []) ∙ ap (λ b. is_tid t ts || (b || false)) other ∙ or_false (is_tid t ts) ∙ h t
      ∙ elim (case_of (g t)) [
        | inl passes ↦ ap (λ b. b && g t) (within_same (d - 1) to high t (omega (arith, le)) few (λ more less. true≢false (sym passes ∙ off t (strictly t (is_other d t other) more) less)))
        | inr fails ↦ apart_and (is_within to high t) (g t) fails ∙ sym (apart_and (is_within (d - 1) high t) (g t) fails)
      ]
]
  where
    strictly : (t : ℕ) → (d ≡ t → ⊥) → d - 1 < t → d < t
    strictly t off more = grind (arith, off, more, pos)

-- one step more, which passes or doesn't
pub one-step : (g : ℕ → Bool) (d to high : ℕ) (ts new : List ℕ) (b : Bool) → 0 < d → d ≤ to → to ≤ high → g d ≡ b → ((t : ℕ) → d < t → t ≤ to → g t ≡ false)
    → ((t : ℕ) → is_tid t ts ≡ (is_within to high t && g t)) → new ≡ ts ++ (if b then d ∷ [] else []) → (t : ℕ) → is_tid t new ≡ (is_within (d - 1) high t && g t)
one-step g d to high ts new true pos le few is off h e t = ap (is_tid t) e ∙ one-tid g d to high ts pos le few is off h t
one-step g d to high ts new false pos le few is off h e t =
    ap (is_tid t) e ∙ ap (is_tid t) (append-nil ts) ∙ h t ∙ widen g (d - 1) to high (omega (arith, le)) few (λ u more less. at_or_after u more less (here_or u more)) t
  where
    here_or : (u : ℕ) → d - 1 < u → (d ≡ u) ⊎ (d < u)
    here_or u more = grind (arith, more, pos)

    at_or_after : (u : ℕ) → d - 1 < u → u ≤ to → (d ≡ u) ⊎ (d < u) → g u ≡ false
    at_or_after u more less (inl same) = subst (λ x. g x ≡ false) same is
    at_or_after u more less (inr after) = off u after less

pub still-within : (low high to d : ℕ) (ts new : List ℕ) → low < d → d ≤ to → to ≤ high → ((t : ℕ) → is_tid t new ≡ true → (is_tid t ts ≡ true) ⊎ (d ≡ t)) → ((t : ℕ) → is_tid t ts ≡ true → is_within low high t ≡ true) → (t : ℕ) → is_tid t new ≡ true → is_within low high t ≡ true
still-within low high to d ts new more le few others h t is = by_case (others t is)
  where
    in_range : is_within low high d ≡ true
    in_range = grind (arith, nat_tests)

    by_case : (is_tid t ts ≡ true) ⊎ (d ≡ t) → is_within low high t ≡ true
    by_case (inl old) = h t old
    by_case (inr same) = subst (λ x. is_within low high x ≡ true) same in_range

-- ---- rows

module _ (rs : List Record) (p : Path) where
  no_row : (t : ℕ) → mark_of_row rs p t ≡ None → goes_whole rs p t ≡ false
  no_row t e = apart_and (loses rs t p) (is_gone (mark_of_row rs p t)) (ap is_gone e)

  -- without a row up to a step, nothing goes whole
  pub whole-none : (to : ℕ) → IsNewestRow rs p to None → (low t : ℕ) → low < t → t ≤ to → goes_whole rs p t ≡ false
  unfolding IsNewestRow
  whole-none to h low t more le = no_row t (h t le)

  -- nor after the newest row
  pub whole-after : (to : ℕ) (d : PlaceRow) → IsNewestRow rs p to (Some d) → (t : ℕ) → d.tid < t → t ≤ to → goes_whole rs p t ≡ false
  unfolding IsNewestRow
  whole-after to d h t more le = no_row t (h.2 t more le)

  module _ (to : ℕ) (d : PlaceRow) (h : IsNewestRow rs p to (Some d)) where
    -- the newest row
    pub row-of : IsRowAt rs p d.tid d.row
    unfolding IsNewestRow
    row-of = h.1

    -- what it says
    pub whole-at : is_gone (mark_of_row rs p d.tid) ≡ is_D row-of.mark
    whole-at = ap is_gone row-of.there

    pub goes-at : goes_whole rs p d.tid ≡ (loses rs d.tid p && is_D row-of.mark)
    goes-at = ap (λ b. loses rs d.tid p && b) whole-at

    pub never-gone : (low high : ℕ) → low < d.tid → d.tid ≤ to → to ≤ high → NeverGone rs p low high → is_D row-of.mark ≡ false
    never-gone low high more le few never = sym whole-at ∙ never d.tid more (omega (arith, le, few))

    pub row-at : has_row kind.N rs p d.tid ≡ true
    row-at = row-there rs p d.tid row-of.mark row-of.there

-- ---- reads

module _ (has : ℕ → Bool) (low : ℕ) (look : ℕ) where
  -- one look more, which is the last
  pub whole-end : (to high a b now : ℕ) → b + suc (rows_within has (suc low) to) * look ≤ a + suc (rows_within has (suc low) high) * look → now ≤ b + look → now ≤ a + suc (rows_within has (suc low) high) * look
  whole-end to high a b now spent read = let h = one_of (suc (rows_within has (suc low) to)) look (omega arith) in omega (arith, spent, read, h)

  -- one look more, and others
  pub whole-on : (d to high a b now : ℕ) → low < d → d ≤ to → has d ≡ true → b + suc (rows_within has (suc low) to) * look ≤ a + suc (rows_within has (suc low) high) * look → now ≤ b + look
      → now + suc (rows_within has (suc low) (d - 1)) * look ≤ a + suc (rows_within has (suc low) high) * look
  whole-on d to high a b now more le is spent read =
      let w = within_more has (suc low) d to (omega (arith, more)) (omega (arith, more)) le is in
      let h = one_more_of (suc (rows_within has (suc low) (d - 1))) (suc (rows_within has (suc low) to)) look (omega (arith, w)) in
      omega (arith, spent, read, h)
