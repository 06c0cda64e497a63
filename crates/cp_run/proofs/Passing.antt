-- Going over the pages of a run for the rows from one key to another.
use Rattle.std.proofs.Common.{arith, ◌≡◌, ◌≤◌, ◌<◌, ◌+◌, ◌-◌, ◌*◌, ◌∙◌, inl, inr, ap, sym, refl, subst, ℕ, zero, suc, List, [], ◌∷◌, ◌++◌, append_assoc, append-nil, length, length-append, Bool, true, false, Option, Some, None, is_le, Contains, eq-or-lt_of_le}
use Rattle.std.specs.Prelude.{if◌then◌else◌}
use Rattle.std.specs.Option.{option_map}
use Rattle.std.proofs.lemmas.List.Elements.{Contains-append_right}
use Rattle.cp_path.specs.Text.{text_cmp}
use Rattle.cp_page.specs.Made.{or_none, rows_in}
use Rattle.cp_page.specs.Ranges.{rows_between, ends_above, found_with}
use Rattle.cp_page.specs.Rows.{rows_of}
use Rattle.cp_page.specs.Spelled.{RiseAfter}
use Rattle.cp_page.specs.declared.page.TheConstants.{PAGE_SIZE}
use Rattle.cp_page.specs.declared.row.PageRow.{PageRow}
use Rattle.cp_run.specs.Holding.{page_at, pages_rows, rows_after, run_rows, HasRowsAt, HaveRows, IsRunOfRows}
use Rattle.cp_run.specs.Searching.{IsSplit, IsWithinLog, begins_by}
use Rattle.cp_run.specs.declared.run.Run.{Run}
use Rattle.cp_run.proofs.Finding.{some_is, rows_here, begins_above, begins_below}
use Rattle.cp_run.proofs.Inside.{between_append, none_past, one_inside, none_below, all_below}
use Rattle.cp_run.proofs.Keys.{above_le, le_below}
use Rattle.cp_run.proofs.Members.{first_among}
use Rattle.cp_run.proofs.Rising.{rise_after, rise_front, above_among}

-- a page of a run: that its rows are there, and that they and those after them rise
pub record IsPageOf (content : List ℕ) (at n : ℕ) : Type 0 where
  pub here : HasRowsAt content at
  pub before : Option (List ℕ)
  pub rise : RiseAfter before (pages_rows content at n)
  pub more : HaveRows content at n

page_of : (content : List ℕ) (i n at : ℕ) (before : Option (List ℕ)) → HaveRows content at n → RiseAfter before (pages_rows content at n) → i < n → IsPageOf content (at + i * PAGE_SIZE) (n - i)
page_of content zero zero at before has rise l = absurd (omega (arith, l))
page_of content zero (suc n) at before has rise l =
    let place : at ≡ at + 0 * PAGE_SIZE = omega arith in
    let count : suc n ≡ suc n - 0 = omega arith in
    subst (λ p. IsPageOf content p (suc n - 0)) place (subst (IsPageOf content at) count (record { here = has.0; before = before; rise = rise; more = has }))
page_of content (suc i) zero at before has rise l = absurd (omega (arith, l))
page_of content (suc i) (suc n) at before has rise l =
    let place : at + PAGE_SIZE + i * PAGE_SIZE ≡ at + suc i * PAGE_SIZE = omega arith in
    let count : n - i ≡ suc n - suc i = omega arith in
    let tail = rise_after before (rows_in (page_at content at)) (pages_rows content (at + PAGE_SIZE) n) rise in
    subst (λ p. IsPageOf content p (suc n - suc i)) place (subst (IsPageOf content (at + PAGE_SIZE + i * PAGE_SIZE)) count (page_of content i n (at + PAGE_SIZE) tail.0 has.1 tail.1 (omega (arith, l))))

-- the rows before a page, and those from it on
front_of : (content : List ℕ) (i n at : ℕ) → i ≤ n → (front : List PageRow) × (pages_rows content at n ≡ front ++ pages_rows content (at + i * PAGE_SIZE) (n - i))
front_of content zero n at l =
    let place : at ≡ at + 0 * PAGE_SIZE = omega arith in
    let count : n ≡ n - 0 = omega arith in
    ([], ap (λ p. pages_rows content p n) place ∙ ap (pages_rows content (at + 0 * PAGE_SIZE)) count)
front_of content (suc i) zero at l = absurd (omega (arith, l))
front_of content (suc i) (suc n) at l =
    let rest = front_of content i n (at + PAGE_SIZE) (omega (arith, l)) in
    let rows = rows_in (page_at content at) in
    let place : at + PAGE_SIZE + i * PAGE_SIZE ≡ at + suc i * PAGE_SIZE = omega arith in
    let count : n - i ≡ suc n - suc i = omega arith in
    (rows ++ rest.0, ap (λ l. rows ++ l) (rest.1 ∙ ap (λ p. rest.0 ++ pages_rows content p (n - i)) place ∙ ap (λ k. rest.0 ++ pages_rows content (at + suc i * PAGE_SIZE) k) count) ∙ sym (append_assoc rows rest.0 (pages_rows content (at + suc i * PAGE_SIZE) (suc n - suc i))))

module _ (content : List ℕ) (run : Run) where
  -- the rows of a page and those of the pages after it
  pub after_split : (n : ℕ) → n < run.pages → rows_after content run n ≡ rows_in (page_at content (run.at + n * PAGE_SIZE)) ++ rows_after content run (n + 1)
  after_split n l =
      let count : run.pages - n ≡ suc (run.pages - (n + 1)) = omega (arith, l) in
      let place : run.at + n * PAGE_SIZE + PAGE_SIZE ≡ run.at + (n + 1) * PAGE_SIZE = omega arith in
      ap (pages_rows content (run.at + n * PAGE_SIZE)) count ∙ ap (λ p. rows_in (page_at content (run.at + n * PAGE_SIZE)) ++ pages_rows content p (run.pages - (n + 1))) place

  pub after_end : (n : ℕ) → run.pages ≤ n → rows_after content run n ≡ []
  after_end n l = let none : run.pages - n ≡ 0 = omega (arith, l) in ap (pages_rows content (run.at + n * PAGE_SIZE)) none

  pub after_all : rows_after content run 0 ≡ run_rows content run
  after_all =
      let place : run.at + 0 * PAGE_SIZE ≡ run.at = omega arith in
      let count : run.pages - 0 ≡ run.pages = omega arith in
      ap (λ k. pages_rows content (run.at + 0 * PAGE_SIZE) k) count ∙ ap (λ p. pages_rows content p run.pages) place

  module _ (has : IsRunOfRows content run) where
    pub page_in : (n : ℕ) → n < run.pages → IsPageOf content (run.at + n * PAGE_SIZE) (run.pages - n)
    page_in n l = page_of content n run.pages run.at None has.pages has.rise l

    -- a page's rows, the first of them in front
    page_rows : (n : ℕ) (l : n < run.pages) → rows_in (page_at content (run.at + n * PAGE_SIZE)) ≡ (page_in n l).here.first ∷ (page_in n l).here.more
    page_rows n l = rows_here content (run.at + n * PAGE_SIZE) (page_in n l).here

    page_rises : (n : ℕ) (l : n < run.pages) → RiseAfter (page_in n l).before (((page_in n l).here.first ∷ (page_in n l).here.more) ++ rows_after content run (n + 1))
    page_rises n l =
        subst (λ rows. RiseAfter (page_in n l).before (rows ++ rows_after content run (n + 1))) (page_rows n l)
        (subst (RiseAfter (page_in n l).before) (after_split n l) (page_in n l).rise)

    -- the first row of a page is one of those from an earlier page on
    first_after : (m n : ℕ) (l : n < run.pages) → m ≤ n → Contains (rows_after content run m) (page_in n l).here.first
    first_after m n l le =
        let front = front_of content (n - m) (run.pages - m) (run.at + m * PAGE_SIZE) (omega (arith, l, le)) in
        let place : run.at + m * PAGE_SIZE + (n - m) * PAGE_SIZE ≡ run.at + n * PAGE_SIZE = omega (arith, le) in
        let count : run.pages - m - (n - m) ≡ run.pages - n = omega (arith, l, le) in
        let split : rows_after content run m ≡ front.0 ++ rows_after content run n = front.1 ∙ ap (λ p. front.0 ++ pages_rows content p (run.pages - m - (n - m))) place ∙ ap (λ k. front.0 ++ pages_rows content (run.at + n * PAGE_SIZE) k) count in
        let f = (page_in n l).here.first in
        let more = (page_in n l).here.more in
        let here : rows_after content run n ≡ (f ∷ more) ++ rows_after content run (n + 1) = after_split n l ∙ ap (λ rows. rows ++ rows_after content run (n + 1)) (page_rows n l) in
        subst (λ (rows : List PageRow). Contains rows f) (sym (split ∙ ap (λ rows. front.0 ++ rows) here))
        (Contains-append_right front.0 ((f ∷ more) ++ rows_after content run (n + 1)) f (first_among f (more ++ rows_after content run (n + 1))))

    module _ (low high : List ℕ) where
      -- the page of this number begins above the one key, and so do all after it
      pub begins_from : (m n : ℕ) (l : n < run.pages) → m ≤ n → (m < run.pages → begins_by content run m low ≡ false) → is_le (text_cmp low (page_in n l).here.first.key) ≡ true
      begins_from m n l le after =
          let lm : m < run.pages = omega (arith, l, le) in
          let above = begins_above content low (run.at + m * PAGE_SIZE) (page_in m lm).here (after lm) in
          let f = (page_in m lm).here.first in
          let more = (page_in m lm).here.more in
          let x = (page_in n l).here.first in
          let there : Contains (f ∷ (more ++ rows_after content run (m + 1))) x = subst (λ (rows : List PageRow). Contains rows x) (after_split m lm ∙ ap (λ rows. rows ++ rows_after content run (m + 1)) (page_rows m lm)) (first_after m n l le) in
          above_le low x.key (above_among low f (more ++ rows_after content run (m + 1)) (page_in m lm).before above (page_rises m lm) x there)

      -- what a page adds, and what the pages after it add
      pub between_split : (n : ℕ) → n < run.pages → rows_between low high (rows_after content run n) ≡ rows_between low high (rows_in (page_at content (run.at + n * PAGE_SIZE))) ++ rows_between low high (rows_after content run (n + 1))
      between_split n l = ap (rows_between low high) (after_split n l) ∙ between_append low high (rows_in (page_at content (run.at + n * PAGE_SIZE))) (rows_after content run (n + 1))

      -- where a page ends above, the pages after it add nothing
      pub past_none : (n : ℕ) → n < run.pages → ends_above high (rows_in (page_at content (run.at + n * PAGE_SIZE))) ≡ true → rows_between low high (rows_after content run (n + 1)) ≡ []
      past_none n l ends =
          let h = (page_in n l).here in
          none_past low high (page_in n l).before h.first h.more (rows_after content run (n + 1)) (subst (λ rows. ends_above high rows ≡ true) (page_rows n l) ends) (page_rises n l)

      -- where a page that begins above the one key doesn't end above the other, it adds a row
      pub adds_one : (m n : ℕ) → n < run.pages → m ≤ n → (m < run.pages → begins_by content run m low ≡ false) → ends_above high (rows_in (page_at content (run.at + n * PAGE_SIZE))) ≡ false
          → 0 < length (rows_between low high (rows_in (page_at content (run.at + n * PAGE_SIZE))))
      adds_one m n l le after ends =
          let h = (page_in n l).here in
          subst (λ rows. 0 < length (rows_between low high rows)) (sym (page_rows n l))
          (one_inside low high (page_in n l).before h.first h.more (begins_from m n l le after) (subst (λ rows. ends_above high rows ≡ false) (page_rows n l) ends) (rise_front (page_in n l).before (h.first ∷ h.more) (rows_after content run (n + 1)) (page_rises n l)))

      -- the rows before the page with which the search goes on are below
      pub before_none : (n : ℕ) → n ≤ run.pages → IsSplit content run low n n → rows_between low high (run_rows content run) ≡ rows_between low high (rows_after content run (n - 1))
      before_none zero l split = ap (rows_between low high) (sym after_all)
      before_none (suc i) l split =
          let li : i < run.pages = omega (arith, l) in
          let below = begins_below content low (run.at + i * PAGE_SIZE) (page_in i li).here (split.before i refl) in
          let f = (page_in i li).here.first in
          let more = (page_in i li).here.more in
          let front = front_of content i run.pages run.at (omega (arith, l)) in
          let here : rows_after content run i ≡ f ∷ (more ++ rows_after content run (i + 1)) = after_split i li ∙ ap (λ rows. rows ++ rows_after content run (i + 1)) (page_rows i li) in
          let rising : RiseAfter None (front.0 ++ f ∷ (more ++ rows_after content run (i + 1))) = subst (RiseAfter None) (front.1 ∙ ap (λ rows. front.0 ++ rows) here) has.rise in
          let none = none_below low high front.0 (λ x h. le_below x.key f.key low (all_below None front.0 f (more ++ rows_after content run (i + 1)) rising x h) below) in
          let last : suc i - 1 ≡ i = omega arith in
          ap (rows_between low high) front.1 ∙ between_append low high front.0 (rows_after content run i) ∙ ap (λ rows. rows ++ rows_between low high (rows_after content run i)) none ∙ ap (λ k. rows_between low high (rows_after content run k)) (sym last)

-- so many looks have gone over the pages from the first to this one
pub record HasPassed (content : List ℕ) (run : Run) (low high : List ℕ) (first n looks : ℕ) : Type 0 where
  pub begun : n ≡ first → looks ≡ 0
  pub some : looks + length (rows_between low high (rows_after content run n)) ≤ 2 + length (rows_between low high (rows_after content run first))
  pub going : n < run.pages → looks + length (rows_between low high (rows_after content run n)) ≤ 1 + length (rows_between low high (rows_after content run first))

module _ (content : List ℕ) (run : Run) (low high : List ℕ) (first : ℕ) where
  pub passed_none : HasPassed content run low high first first 0
  passed_none = record { begun = λ e. refl; some = omega arith; going = λ l. omega arith }

  -- one look more, whatever it gives
  pub passed_look : (n looks : ℕ) → n < run.pages → HasPassed content run low high first n looks → suc looks ≤ 2 + length (rows_between low high (rows_after content run first))
  passed_look n looks l is = let h = is.going l in omega (arith, h)

  -- one page more
  pub passed_page : (n next looks : ℕ) (past : Bool) → n < run.pages → first ≤ n → IsRunOfRows content run → (m : ℕ) × IsSplit content run low m m × (first ≡ m - 1) → past ≡ ends_above high (rows_in (page_at content (run.at + n * PAGE_SIZE)))
      → next ≡ (if past then run.pages else n + 1) → HasPassed content run low high first n looks → HasPassed content run low high first next (suc looks)
  passed_page n next looks true l le has split ends is before =
      let h = before.going l in
      let none = ap (rows_between low high) (after_end content run next (omega (arith, is))) in
      let some : length (rows_between low high (rows_after content run next)) ≡ 0 = ap length none in
      record { begun = λ e. absurd (omega (arith, e, is, le, l)); some = omega (arith, h, some); going = λ more. absurd (omega (arith, more, is)) }
  passed_page n next looks false l le has split ends is before =
      let h = before.going l in
      let here = ap length (between_split content run has low high n l) in
      let both = length-append (rows_between low high (rows_in (page_at content (run.at + n * PAGE_SIZE)))) (rows_between low high (rows_after content run (n + 1))) in
      let at_next : length (rows_between low high (rows_after content run next)) ≡ length (rows_between low high (rows_after content run (n + 1))) = ap (λ k. length (rows_between low high (rows_after content run k))) is in
      record {
        begun = λ e. absurd (omega (arith, e, is, le));
        some = omega (arith, h, here, both, at_next);
        going = λ more. elim (eq-or-lt_of_le le) [
          | inl same ↦
              let none = before.begun (sym same) in
              let first_is : length (rows_between low high (rows_after content run n)) ≡ length (rows_between low high (rows_after content run first)) = ap (λ k. length (rows_between low high (rows_after content run k))) (sym same) in
              omega (arith, none, here, both, at_next, first_is)
          | inr later ↦
              let one = adds_one content run has low high split.0 n l (omega (arith, later, split.2)) split.1.after (sym ends) in
              omega (arith, h, here, both, at_next, one)
        ];
      }

-- what a page adds, and whether its last row is above
added_of : (low high : List ℕ) (o : Option (List PageRow)) (found new : List PageRow) (past : Bool) → option_map (found_with low high found false) o ≡ Some (new, past)
    → (new ≡ found ++ rows_between low high (or_none o)) × (past ≡ ends_above high (or_none o))
added_of low high None found new past is = cc
added_of low high (Some rows) found new past is = let h = some_is (found_with low high found false rows) (new, past) is in (sym (ap (λ x. x.0) h), sym (ap (λ x. x.1) h))

pub added_is : (low high bytes : List ℕ) (found new : List PageRow) (past : Bool) → option_map (found_with low high found false) (rows_of bytes) ≡ Some (new, past)
    → (new ≡ found ++ rows_between low high (rows_in bytes)) × (past ≡ ends_above high (rows_in bytes))
added_is low high bytes found new past is = added_of low high (rows_of bytes) found new past is

module _ (content : List ℕ) (run : Run) (low high : List ℕ) where
  -- what was found and what is left is all, after one page more
  pub rows_page : (n next : ℕ) (past : Bool) (found new start : List PageRow) → n < run.pages → IsRunOfRows content run → new ≡ found ++ rows_between low high (rows_in (page_at content (run.at + n * PAGE_SIZE)))
      → past ≡ ends_above high (rows_in (page_at content (run.at + n * PAGE_SIZE))) → next ≡ (if past then run.pages else n + 1) → found ++ rows_between low high (rows_after content run n) ≡ start
      → new ++ rows_between low high (rows_after content run next) ≡ start
  rows_page n next true found new start l has also ends is before =
      let here = rows_between low high (rows_in (page_at content (run.at + n * PAGE_SIZE))) in
      let none = ap (rows_between low high) (after_end content run next (omega (arith, is))) in
      let rest = past_none content run has low high n l (sym ends) in
      let all : rows_between low high (rows_after content run n) ≡ here = between_split content run has low high n l ∙ ap (λ rows. here ++ rows) rest ∙ append-nil here in
      ap (λ rows. rows ++ rows_between low high (rows_after content run next)) also ∙ ap (λ rows. (found ++ here) ++ rows) none ∙ append-nil (found ++ here) ∙ ap (λ rows. found ++ rows) (sym all) ∙ before
  rows_page n next false found new start l has also ends is before =
      let here = rows_between low high (rows_in (page_at content (run.at + n * PAGE_SIZE))) in
      let rest = rows_between low high (rows_after content run (n + 1)) in
      ap (λ k. new ++ rows_between low high (rows_after content run k)) is ∙ ap (λ rows. rows ++ rest) also ∙ append_assoc found here rest ∙ ap (λ rows. found ++ rows) (sym (between_split content run has low high n l)) ∙ before

  pub rows_end : (n : ℕ) (found start : List PageRow) → run.pages ≤ n → found ++ rows_between low high (rows_after content run n) ≡ start → found ≡ start
  rows_end n found start l before = sym (ap (λ rows. found ++ rows) (ap (rows_between low high) (after_end content run n l)) ∙ append-nil found) ∙ before

  -- what a search and the pages after it cost
  pub searched_and_passed : (now : List ℕ) (count first i j : ℕ) → now ≡ content → count ≤ run.pages → first ≡ count - 1 → IsRunOfRows content run → IsSplit content run low count count → IsWithinLog 1 run.pages i
      → (IsRunOfRows now run → (n : ℕ) × IsSplit now run low n n × (first ≡ n - 1) → j ≤ 2 + length (rows_between low high (rows_after now run first)))
      → IsWithinLog (3 + length (rows_between low high (run_rows content run))) run.pages (j + i)
  searched_and_passed now count first i j same within is has split one two n small =
      let f = one n small in
      let here : (IsRunOfRows content run → (n : ℕ) × IsSplit content run low n n × (first ≡ n - 1) → j ≤ 2 + length (rows_between low high (rows_after content run first))) = subst (λ c. IsRunOfRows c run → (n : ℕ) × IsSplit c run low n n × (first ≡ n - 1) → j ≤ 2 + length (rows_between low high (rows_after c run first))) same two in
      let g = here has (count, split, is) in
      let rows = ap length (before_none content run has low high count within split) in
      let place : length (rows_between low high (rows_after content run first)) ≡ length (rows_between low high (rows_after content run (count - 1))) = ap (λ k. length (rows_between low high (rows_after content run k))) is in
      omega (arith, f, g, rows, place)

  -- the rows that a search and the pages after it find
  pub searched_rows : (now : List ℕ) (count first : ℕ) (found new : List PageRow) → now ≡ content → count ≤ run.pages → first ≡ count - 1 → IsRunOfRows content run → IsSplit content run low count count
      → (IsRunOfRows now run → new ≡ found ++ rows_between low high (rows_after now run first)) → new ≡ found ++ rows_between low high (run_rows content run)
  searched_rows now count first found new same within is has split two =
      subst (λ c. IsRunOfRows c run → new ≡ found ++ rows_between low high (rows_after c run first)) same two has
      ∙ ap (λ k. found ++ rows_between low high (rows_after content run k)) is
      ∙ ap (λ rows. found ++ rows) (sym (before_none content run has low high count within split))

-- the next page comes later, and lies in the run or is its end
pub next_later : (first n next pages : ℕ) (past : Bool) → next ≡ (if past then pages else n + 1) → n < pages → first ≤ n → (first ≤ next) × (next ≤ pages)
next_later first n next pages true is l le = (omega (arith, is, l, le), omega (arith, is))
next_later first n next pages false is l le = (omega (arith, is, l, le), omega (arith, is, l))

pub next_less : (n next pages : ℕ) (past : Bool) → next ≡ (if past then pages else n + 1) → n < pages → pages - next < pages - n
next_less n next pages true is l = omega (arith, is, l)
next_less n next pages false is l = omega (arith, is, l)
