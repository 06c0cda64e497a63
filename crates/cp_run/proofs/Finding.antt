-- The greatest row of a run stands in the page that the search found.
use Rattle.std.proofs.Common.{arith, ◌≡◌, ◌≤◌, ◌<◌, ◌+◌, ◌*◌, ◌-◌, ◌∙◌, ap, sym, refl, subst, ℕ, zero, suc, List, ◌∷◌, ◌++◌, true, false, Option, Some, None, is_le}
use Rattle.std.specs.Option.{option_map}
use Rattle.cp_path.specs.Text.{text_cmp}
use Rattle.cp_page.specs.Keys.{first_key}
use Rattle.cp_page.specs.Made.{or_none, rows_in}
use Rattle.cp_page.specs.Rows.{rows_of, last_from, greatest}
use Rattle.cp_page.specs.Spelled.{RiseAfter}
use Rattle.cp_page.specs.declared.page.TheConstants.{PAGE_SIZE}
use Rattle.cp_page.specs.declared.row.PageRow.{PageRow}
use Rattle.cp_page.proofs.Firsts.{first_keys_are_of_rows}
use Rattle.cp_run.specs.Answers.{IsGreatest}
use Rattle.cp_run.specs.Holding.{page_at, pages_rows, run_rows, HasRowsAt, HaveRows, IsRunOfRows}
use Rattle.cp_run.specs.Searching.{is_by, IsSplit}
use Rattle.cp_run.specs.declared.run.Run.{Run}
use Rattle.cp_run.proofs.Rising.{rise_after, last_append, first_above, first_counts, greatest_is}

module _ (content : List ℕ) where
  -- the rows of a page that has some
  pub rows_here : (at : ℕ) (h : HasRowsAt content at) → rows_in (page_at content at) ≡ h.first ∷ h.more
  rows_here at h = ap or_none h.rows

  pub key_here : (at : ℕ) (h : HasRowsAt content at) → first_key (page_at content at) ≡ Some (Some h.first.key)
  key_here at h = first_keys_are_of_rows (page_at content at) (h.first ∷ h.more) h.rows

  pub same_place : (at i : ℕ) → at + suc i * PAGE_SIZE ≡ at + PAGE_SIZE + i * PAGE_SIZE
  same_place at i = omega arith

  module _ (key : List ℕ) where
    -- where a page begins above, so does its first row
    pub begins_above : (at : ℕ) (h : HasRowsAt content at) → is_by key (first_key (page_at content at)) ≡ false → is_le (text_cmp h.first.key key) ≡ false
    begins_above at h begins = sym (ap (is_by key) (key_here at h)) ∙ begins

    pub begins_below : (at : ℕ) (h : HasRowsAt content at) → is_by key (first_key (page_at content at)) ≡ true → is_le (text_cmp h.first.key key) ≡ true
    begins_below at h begins = sym (ap (is_by key) (key_here at h)) ∙ begins

    -- the first page of some begins above, if there is one
    pages_above : (best : Option PageRow) (before : Option (List ℕ)) (at n : ℕ) → HaveRows content at n → RiseAfter before (pages_rows content at n)
        → (0 < n → is_by key (first_key (page_at content at)) ≡ false) → last_from key best (pages_rows content at n) ≡ best
    pages_above best before at zero has rise first = refl
    pages_above best before at (suc n) has rise first =
        let above = begins_above at has.0 (first (omega arith)) in
        let here = rows_here at has.0 in
        let rest = pages_rows content (at + PAGE_SIZE) n in
        ap (λ l. last_from key best (l ++ rest)) here ∙ first_above key best before has.0.first (has.0.more ++ rest) above (subst (λ l. RiseAfter before (l ++ rest)) here rise)

    at_page : (n at i : ℕ) (best : Option PageRow) (before : Option (List ℕ)) → HaveRows content at n → RiseAfter before (pages_rows content at n) → i < n
        → is_by key (first_key (page_at content (at + i * PAGE_SIZE))) ≡ true
        → (suc i < n → is_by key (first_key (page_at content (at + suc i * PAGE_SIZE))) ≡ false)
        → option_map (greatest key) (rows_of (page_at content (at + i * PAGE_SIZE))) ≡ Some (last_from key best (pages_rows content at n))
    at_page zero at i best before has rise within begins after = absurd (omega (arith, within))
    at_page (suc n) at zero best before has rise within begins after =
        let r = has.0.first in
        let rs = has.0.more in
        let rest = pages_rows content (at + PAGE_SIZE) n in
        let here : at + 0 * PAGE_SIZE ≡ at = omega arith in
        let next : at + 1 * PAGE_SIZE ≡ at + PAGE_SIZE = omega arith in
        let rows = rows_here at has.0 in
        let below = begins_below at has.0 (subst (λ j. is_by key (first_key (page_at content j)) ≡ true) here begins) in
        let tail = rise_after before (r ∷ rs) rest (subst (λ l. RiseAfter before (l ++ rest)) rows rise) in
        let later = pages_above (last_from key best (r ∷ rs)) tail.0 (at + PAGE_SIZE) n has.1 tail.1
        (λ some. subst (λ j. is_by key (first_key (page_at content j)) ≡ false) next (after (omega (arith, some)))) in
        let whole : last_from key best (rows_in (page_at content at) ++ rest) ≡ greatest key (r ∷ rs) =
        ap (λ l. last_from key best (l ++ rest)) rows ∙ last_append key best (r ∷ rs) rest ∙ later ∙ first_counts key best r rs below in
        ap (λ j. option_map (greatest key) (rows_of (page_at content j))) here ∙ ap (option_map (greatest key)) has.0.rows ∙ ap Some (sym whole)
    at_page (suc n) at (suc i) best before has rise within begins after =
        let rows = rows_in (page_at content at) in
        let rest = pages_rows content (at + PAGE_SIZE) n in
        let tail = rise_after before rows rest rise in
        let on = at_page n (at + PAGE_SIZE) i (last_from key best rows) tail.0 has.1 tail.1 (omega (arith, within))
        (subst (λ j. is_by key (first_key (page_at content j)) ≡ true) (same_place at i) begins)
        (λ some. subst (λ j. is_by key (first_key (page_at content j)) ≡ false) (same_place at (suc i)) (after (omega (arith, some)))) in
        ap (λ j. option_map (greatest key) (rows_of (page_at content j))) (same_place at i) ∙ on ∙ ap Some (sym (last_append key best rows rest))

pub some_is : {X : Type 0} (x y : X) → Some x ≡ Some y → x ≡ y
some_is x y h = cc

module _ (content : List ℕ) (run : Run) (key : List ℕ) (has : IsRunOfRows content run) where
  pub none_found : (n : ℕ) → n ≡ 0 → IsSplit content run key n n → IsGreatest key (run_rows content run) None
  none_found n none split =
      let start : run.at + n * PAGE_SIZE ≡ run.at = omega (arith, none) in
      let above = pages_above content key None None run.at run.pages has.pages has.rise
      (λ some. subst (λ j. is_by key (first_key (page_at content j)) ≡ false) start (split.after (omega (arith, none, some)))) in
      subst (IsGreatest key (run_rows content run)) above (greatest_is key None (run_rows content run) has.rise)

  pub one_found : (now : List ℕ) (n : ℕ) (o : Option PageRow) → now ≡ content → n ≤ run.pages → 0 < n → IsSplit content run key n n
      → option_map (greatest key) (rows_of (page_at now (run.at + (n - 1) * PAGE_SIZE))) ≡ Some o → IsGreatest key (run_rows content run) o
  one_found now n o same within some split found =
      let last : n ≡ suc (n - 1) = omega (arith, some) in
      let here = at_page content key run.pages run.at (n - 1) None None has.pages has.rise (omega (arith, within, some)) (split.before (n - 1) last)
      (λ more. subst (λ j. is_by key (first_key (page_at content (run.at + j * PAGE_SIZE))) ≡ false) last (split.after (omega (arith, more, last)))) in
      let there = subst (λ l. option_map (greatest key) (rows_of (page_at l (run.at + (n - 1) * PAGE_SIZE))) ≡ Some o) same found in
      let is : last_from key None (run_rows content run) ≡ o = some_is (last_from key None (run_rows content run)) o (sym here ∙ there) in
      subst (IsGreatest key (run_rows content run)) is (greatest_is key None (run_rows content run) has.rise)
