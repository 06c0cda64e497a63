-- Lists merged, row by row.
use Rattle.std.proofs.Common.{arith, ◌≡◌, ◌<◌, ◌⊎◌, ◌∙◌, ⊎_elim, inl, inr, ap, sym, refl, subst, ℕ, zero, suc, Bool, true, false, List, [], ◌∷◌, ◌++◌, length, get_or, set, Option, None, Some, is_le, is_lt}
use Rattle.std.specs.List.{Contains, AllByRecursion}
use Rattle.std.proofs.lemmas.List.Elements.{Contains-append_left, Contains-append_right, Contains-append_cases, Contains-push, Contains-push_cases}
use Rattle.cp_path.specs.Text.{text_cmp}
use Rattle.cp_page.specs.Rows.{is_after}
use Rattle.cp_page.specs.declared.row.PageRow.{PageRow}
use Rattle.cp_page.specs.Spelled.{RiseAfter}
use Rattle.cp_page.specs.Cuts.{all_rows}
use Rattle.cp_merge.specs.Merging.{HasKey, IsMerge, last_key, IsNotBelow, BeginsAbove, IsMerging}
use Rattle.cp_merge.proofs.Keys.{in_cons, in_none, at_first, after_first, rise_in, le_is, le_trans, lt_is_le}

-- ---- the least of the first rows

least_in : (key : List ℕ) (rows : List PageRow) → BeginsAbove key rows → RiseAfter None rows → (s : PageRow) → Contains rows s → is_le (text_cmp key s.key) ≡ true
least_in key [] above rise s h = absurd (in_none s h)
least_in key (r ∷ rows) above rise s h = ⊎_elim (λ is. subst (λ q. is_le (text_cmp key q.key) ≡ true) is above) (λ on. le_trans key r.key s.key above (lt_is_le r.key s.key (rise_in r.key rows s rise.1 on))) (in_cons r rows s h)

-- where no list begins below the key, no row of them is
pub least : (key : List ℕ) (lists : List (List PageRow)) → AllByRecursion (BeginsAbove key) lists → AllByRecursion (RiseAfter None) lists → (s : PageRow) → Contains (all_rows lists) s → is_le (text_cmp key s.key) ≡ true
least key [] above rise s h = absurd (in_none s h)
least key (rows ∷ lists) above rise s h = ⊎_elim (λ a. least_in key rows above.0 rise.0 s a) (λ b. least key lists above.1 rise.1 s b) (Contains-append_cases rows (all_rows lists) s h)

-- ---- one list goes on

rises_on : (before : Option (List ℕ)) (rows : List PageRow) → RiseAfter before rows → RiseAfter None rows
rises_on before [] rise = tt
rises_on before (r ∷ rows) rise = (refl, rise.1)

module _ (r : PageRow) (more : List PageRow) where
  pub first_left : (lists : List (List PageRow)) (i : ℕ) (d : List PageRow) → i < length lists → get_or lists i d ≡ r ∷ more → Contains (all_rows lists) r
  first_left [] i d l is = absurd (omega (arith, l))
  first_left (rows ∷ lists) zero d l is = Contains-append_left rows (all_rows lists) r (subst (λ q. Contains q r) (sym is) (at_first r more))
  first_left (rows ∷ lists) (suc i) d l is = Contains-append_right rows (all_rows lists) r (first_left lists i d (omega (arith, l)) is)

  pub left_before : (lists : List (List PageRow)) (i : ℕ) (d : List PageRow) → i < length lists → get_or lists i d ≡ r ∷ more → (s : PageRow) → Contains (all_rows (set lists i more)) s → Contains (all_rows lists) s
  left_before [] i d l is s h = absurd (omega (arith, l))
  left_before (rows ∷ lists) zero d l is s h = ⊎_elim (λ a. Contains-append_left rows (all_rows lists) s (subst (λ q. Contains q s) (sym is) (after_first r more s a))) (λ b. Contains-append_right rows (all_rows lists) s b) (Contains-append_cases more (all_rows lists) s h)
  left_before (rows ∷ lists) (suc i) d l is s h = ⊎_elim (λ a. Contains-append_left rows (all_rows lists) s a) (λ b. Contains-append_right rows (all_rows lists) s (left_before lists i d (omega (arith, l)) is s b)) (Contains-append_cases rows (all_rows (set lists i more)) s h)

  pub left_after : (lists : List (List PageRow)) (i : ℕ) (d : List PageRow) → i < length lists → get_or lists i d ≡ r ∷ more → (s : PageRow) → Contains (all_rows lists) s → (r ≡ s) ⊎ Contains (all_rows (set lists i more)) s
  left_after [] i d l is s h = absurd (omega (arith, l))
  left_after (rows ∷ lists) zero d l is s h = ⊎_elim
      (λ a. ⊎_elim (λ e. inl e) (λ on. inr (Contains-append_left more (all_rows lists) s on)) (in_cons r more s (subst (λ q. Contains q s) is a)))
      (λ b. inr (Contains-append_right more (all_rows lists) s b)) (Contains-append_cases rows (all_rows lists) s h)
  left_after (rows ∷ lists) (suc i) d l is s h = ⊎_elim
      (λ a. inr (Contains-append_left rows (all_rows (set lists i more)) s a))
      (λ b. ⊎_elim (λ e. inl e) (λ on. inr (Contains-append_right rows (all_rows (set lists i more)) s on)) (left_after lists i d (omega (arith, l)) is s b)) (Contains-append_cases rows (all_rows lists) s h)

  sorted_on : (lists : List (List PageRow)) (i : ℕ) (d : List PageRow) → i < length lists → get_or lists i d ≡ r ∷ more → AllByRecursion (RiseAfter None) lists → AllByRecursion (RiseAfter None) (set lists i more)
  sorted_on [] i d l is all = absurd (omega (arith, l))
  sorted_on (rows ∷ lists) zero d l is all = let rise = subst (RiseAfter None) is all.0 in (rises_on (Some r.key) more rise.1, all.1)
  sorted_on (rows ∷ lists) (suc i) d l is all = (all.0, sorted_on lists i d (omega (arith, l)) is all.1)

-- ---- the last key

some_is : {X : Type 0} (x y : X) → Some x ≡ Some y → x ≡ y
some_is x y h = cc

none_some : {X : Type 0} (x : X) → None ≡ Some x → ⊥
none_some x h = cc

true_false : (b : Bool) → b ≡ true → b ≡ false → ⊥
true_false b h k = cc

pub last_then : (before : Option (List ℕ)) (rows : List PageRow) (r : PageRow) → last_key before (rows ++ r ∷ []) ≡ Some r.key
last_then before [] r = refl
last_then before (q ∷ rows) r = last_then (Some q.key) rows r

pub rise_then : (before : Option (List ℕ)) (rows : List PageRow) (r : PageRow) → RiseAfter before rows → is_after (last_key before rows) r.key ≡ true → RiseAfter before (rows ++ r ∷ [])
rise_then before [] r rise is = (is, tt)
rise_then before (q ∷ rows) r rise is = (rise.0, rise_then (Some q.key) rows r rise.1 is)

has_last : (before : Option (List ℕ)) (rows : List PageRow) (k : List ℕ) → last_key before rows ≡ Some k → (before ≡ Some k) ⊎ HasKey rows k
has_last before [] k is = inl is
has_last before (q ∷ rows) k is = ⊎_elim
    (λ e. inr (q, at_first q rows, some_is q.key k e))
    (λ on. inr (on.0, after_first q rows on.0 on.1, on.2)) (has_last (Some q.key) rows k is)

key_kept : (rows : List PageRow) (k : List ℕ) → last_key None rows ≡ Some k → HasKey rows k
key_kept rows k is = ⊎_elim (λ e. absurd (none_some k e)) (λ h. h) (has_last None rows k is)

-- a key that isn't after the last one, and isn't below it, is the last one
same_key : (o : Option (List ℕ)) (key : List ℕ) → IsNotBelow o key → is_after o key ≡ false → o ≡ Some key
same_key None key low not = cc
same_key (Some k) key low not = ⊎_elim (λ a. absurd (true_false (is_lt (text_cmp k key)) a not)) (λ e. ap Some e) (le_is k key low)

-- ---- the merge

module _ (all : List PageRow) (left : List (List PageRow)) (rows : List PageRow) (merging : IsMerging all left rows) (r : PageRow) (more : List PageRow) (i : ℕ) (d : List PageRow) (l : i < length left) (is : get_or left i d ≡ r ∷ more) where
  here : Contains all r
  here = merging.left_of_all r (first_left r more left i d l is)

  -- a row with a key that comes after the last one
  pub row_merged : AllByRecursion (BeginsAbove r.key) left → is_after (last_key None rows) r.key ≡ true → IsMerging all (set left i more) (rows ++ r ∷ [])
  row_merged above after = record {
    rise = rise_then None rows r merging.rise after;
    of_all = λ s h. ⊎_elim (λ a. merging.of_all s a) (λ e. subst (Contains all) e here) (Contains-push_cases rows r s h);
    left_of_all = λ s h. merging.left_of_all s (left_before r more left i d l is s h);
    each = λ s h. ⊎_elim
        (λ k. inl (k.0, Contains-append_left rows (r ∷ []) k.0 k.1, k.2))
        (λ a. ⊎_elim (λ e. inl (r, Contains-push rows r, ap (λ q. q.key) e)) (λ on. inr on) (left_after r more left i d l is s a)) (merging.each s h);
    after = λ s h. subst (λ o. IsNotBelow o s.key) (sym (last_then None rows r)) (least r.key left above merging.sorted s (left_before r more left i d l is s h));
    sorted = sorted_on r more left i d l is merging.sorted;
  }

  -- a row with the last key is passed over
  pub row_passed : is_after (last_key None rows) r.key ≡ false → IsMerging all (set left i more) rows
  row_passed after = record {
    rise = merging.rise;
    of_all = merging.of_all;
    left_of_all = λ s h. merging.left_of_all s (left_before r more left i d l is s h);
    each = λ s h. ⊎_elim
        (λ k. inl k)
        (λ a. ⊎_elim (λ e. let k = key_kept rows r.key (same_key (last_key None rows) r.key (merging.after r (first_left r more left i d l is)) after) in inl (k.0, k.1, k.2 ∙ ap (λ q. q.key) e)) (λ on. inr on) (left_after r more left i d l is s a)) (merging.each s h);
    after = λ s h. merging.after s (left_before r more left i d l is s h);
    sorted = sorted_on r more left i d l is merging.sorted;
  }

pub begins : (lists : List (List PageRow)) → AllByRecursion (RiseAfter None) lists → IsMerging (all_rows lists) lists []
begins lists rise = record {
  rise = tt;
  of_all = λ r h. absurd (in_none r h);
  left_of_all = λ r h. h;
  each = λ r h. inr h;
  after = λ r h. tt;
  sorted = rise;
}

pub none_left : (lists : List (List PageRow)) → AllByRecursion (λ rows. rows ≡ []) lists → all_rows lists ≡ []
none_left [] none = refl
none_left (rows ∷ lists) none = ap (λ q. q ++ all_rows lists) none.0 ∙ none_left lists none.1

pub merged : (lists left : List (List PageRow)) (rows : List PageRow) → IsMerging (all_rows lists) left rows → AllByRecursion (λ q. q ≡ []) left → IsMerge lists rows
merged lists left rows merging none = record {
  rise = merging.rise;
  of_lists = merging.of_all;
  each = λ r h. ⊎_elim (λ k. k) (λ a. absurd (in_none r (subst (λ q. Contains q r) (none_left left none) a))) (merging.each r h);
}
