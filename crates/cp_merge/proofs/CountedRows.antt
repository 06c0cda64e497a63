-- The rows of a run that count.
use Rattle.std.proofs.Common.{arith, ◌≡◌, ◌≤◌, ◌<◌, ◌+◌, ◌∙◌, ◌==◌, ap, sym, refl, subst, ℕ, zero, suc, List, [], ◌∷◌, ◌++◌, Bool, true, false, drop, length, length-drop, Option, Some, None}
use Rattle.std.specs.Prelude.{if◌then◌else◌}
use Rattle.std.proofs.lemmas.List.{length-take-le, length-take}
use Rattle.cp_page.specs.Made.{or_none, rows_in}
use Rattle.cp_page.specs.Rows.{is_after, rows_of}
use Rattle.cp_page.specs.Spelled.{RiseAfter}
use Rattle.cp_page.specs.declared.page.TheConstants.{PAGE_SIZE}
use Rattle.cp_page.specs.declared.row.PageRow.{PageRow}
use Rattle.cp_page.proofs.Sizes.{rows_rise}
use Rattle.cp_run.specs.Holding.{page_at, pages_rows, HasRowsAt, HaveRows}
use Rattle.cp_merge.specs.Merging.{last_key}
use Rattle.cp_merge.specs.Counting.{whole_page, rows_or_none, if_after, counted_at, counted_from, RunsCountWhole, CountedRowsRise}

-- ---- rows that rise

rise_append : (before : Option (List ℕ)) (xs ys : List PageRow) → RiseAfter before xs → RiseAfter (last_key before xs) ys → RiseAfter before (xs ++ ys)
rise_append before [] ys a b = b
rise_append before (x ∷ xs) ys a b = (a.0, rise_append (Some x.key) xs ys a.1 b)

rise_split : (before : Option (List ℕ)) (xs ys : List PageRow) → RiseAfter before (xs ++ ys) → RiseAfter (last_key before xs) ys
rise_split before [] ys a = a
rise_split before (x ∷ xs) ys a = rise_split (Some x.key) xs ys a.1

if_after_on : (b : Bool) (before : Option (List ℕ)) (r : PageRow) (rows : List PageRow) → b ≡ is_after before r.key → RiseAfter (Some r.key) rows → RiseAfter before (if b then r ∷ rows else [])
if_after_on true before r rows is rise = (sym is, rise)
if_after_on false before r rows is rise = tt

if_after_rise : (before : Option (List ℕ)) (rows : List PageRow) → RiseAfter None rows → RiseAfter before (if_after before rows)
if_after_rise before [] rise = tt
if_after_rise before (r ∷ rows) rise = if_after_on (is_after before r.key) before r rows refl rise.1

or_none_rise : (bytes : List ℕ) (o : Option (List PageRow)) → o ≡ rows_of bytes → RiseAfter None (or_none o)
or_none_rise bytes None is = tt
or_none_rise bytes (Some rows) is = rows_rise bytes rows (sym is)

whole_on : (b : Bool) (bytes : List ℕ) → RiseAfter None (rows_or_none (if b then Some bytes else None))
whole_on true bytes = or_none_rise bytes (rows_of bytes) refl
whole_on false bytes = tt

counted_rise : (content : List ℕ) (before : Option (List ℕ)) (at : ℕ) → RiseAfter before (counted_at content before at)
counted_rise content before at = if_after_rise before (rows_or_none (whole_page (page_at content at))) (whole_on (length (page_at content at) == PAGE_SIZE) (page_at content at))

run_rise : (content : List ℕ) (before : Option (List ℕ)) (at n : ℕ) → RiseAfter before (counted_from content before at n)
run_rise content before at zero = tt
run_rise content before at (suc n) =
    rise_append before (counted_at content before at) (counted_from content (last_key before (counted_at content before at)) (at + PAGE_SIZE) n) (counted_rise content before at)
    (run_rise content (last_key before (counted_at content before at)) (at + PAGE_SIZE) n)

pub counted_rows_rise : CountedRowsRise
counted_rows_rise content run = run_rise content None run.at run.pages

-- ---- pages that are whole

long_page : (content : List ℕ) (at : ℕ) → at + PAGE_SIZE ≤ length content → length (page_at content at) ≡ PAGE_SIZE
long_page content at l = let d = length-drop at content in length-take-le PAGE_SIZE (drop at content) (omega (arith, l, d))

whole_if : (n : ℕ) (bytes : List ℕ) → length bytes ≡ n → (if length bytes == n then Some bytes else None) ≡ Some bytes
whole_if n bytes is = let h : (length bytes == n) ≡ true = grind (arith, is) in rw h refl

not_if : (n : ℕ) (bytes : List ℕ) → length bytes < n → (if length bytes == n then Some bytes else None) ≡ None
not_if n bytes l = let h : (length bytes == n) ≡ false = grind (arith, l) in rw h refl

pub is_whole : (content : List ℕ) (at : ℕ) → at + PAGE_SIZE ≤ length content → whole_page (page_at content at) ≡ Some (page_at content at)
is_whole content at l = whole_if PAGE_SIZE (page_at content at) (long_page content at l)

pub not_whole : (content : List ℕ) (at : ℕ) → length content < at + PAGE_SIZE → None ≡ whole_page (page_at content at)
not_whole content at l =
    let d = length-drop at content in
    let short : length (drop at content) < PAGE_SIZE = omega (arith, l, d) in
    let t = length-take PAGE_SIZE (drop at content) in
    sym (not_if PAGE_SIZE (page_at content at) (omega (arith, t, short)))

-- ---- a run of rows

first_after : (before : Option (List ℕ)) (r : PageRow) (rows : List PageRow) → is_after before r.key ≡ true → if_after before (r ∷ rows) ≡ r ∷ rows
first_after before r rows h = rw h refl

counted_whole : (content : List ℕ) (before : Option (List ℕ)) (at : ℕ) (has : HasRowsAt content at) → is_after before has.first.key ≡ true → counted_at content before at ≡ has.first ∷ has.more
counted_whole content before at has rise =
    ap (λ p. if_after before (rows_or_none p)) (is_whole content at has.whole)
    ∙ ap (λ o. if_after before (or_none o)) has.rows
    ∙ first_after before has.first has.more rise

-- the rows of the pages, where they follow the key that is given
follows : (content : List ℕ) (before : Option (List ℕ)) (at n : ℕ) → HaveRows content at n → RiseAfter before (pages_rows content at n) → counted_from content before at n ≡ pages_rows content at n
follows content before at zero has rise = refl
follows content before at (suc n) has rise =
    let first = has.0.first in
    let more = has.0.more in
    let here : rows_in (page_at content at) ≡ first ∷ more = ap or_none has.0.rows in
    let rest = pages_rows content (at + PAGE_SIZE) n in
    let goes : RiseAfter before ((first ∷ more) ++ rest) = subst (λ l. RiseAfter before (l ++ rest)) here rise in
    let is = counted_whole content before at has.0 goes.0 in
    ap (λ l. l ++ counted_from content (last_key before l) (at + PAGE_SIZE) n) is
    ∙ ap (λ l. (first ∷ more) ++ l) (follows content (last_key before (first ∷ more)) (at + PAGE_SIZE) n has.1 (rise_split before (first ∷ more) rest goes))
    ∙ ap (λ l. l ++ rest) (sym here)

pub runs_count_whole : RunsCountWhole
runs_count_whole content run is = follows content None run.at run.pages is.pages is.rise
