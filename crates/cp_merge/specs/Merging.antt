-- Lists of rows merged to one, and rows that are held each once.
use Rattle.std.specs.Prelude.{ℕ, ◌≡◌, ◌⊎◌, ⊤, true, List, [], ◌∷◌, ◌++◌, Contains}
use Rattle.std.specs.List.{AllByRecursion}
use Rattle.std.specs.Ordering.{is_le}
use Rattle.std.specs.declared.option.Option.{Option}
use Rattle.std.specs.declared.option.Option.TheVariants.{None, Some}
use Rattle.cp_path.specs.Text.{text_cmp}
use Rattle.cp_page.specs.declared.row.PageRow.{PageRow}
use Rattle.cp_page.specs.Spelled.{RiseAfter}
use Rattle.cp_page.specs.Cuts.{all_rows}
use Rattle.cp_paged.specs.Held.{HasEachOnce}

-- one of the rows has this key
abbrev pub HasKey : List PageRow → List ℕ → Type 0
HasKey rows key = (r : PageRow) × Contains rows r × (r.key ≡ key)

-- the rows are the lists merged: their keys rise, each is one of a list's, and each key of a list is there
pub record IsMerge (lists : List (List PageRow)) (rows : List PageRow) : Type 0 where
  pub rise : RiseAfter None rows
  pub of_lists : (r : PageRow) → Contains rows r → Contains (all_rows lists) r
  pub each : (r : PageRow) → Contains (all_rows lists) r → HasKey rows r.key

-- no key of the first rows is one of the others
abbrev pub AreApart : List PageRow → List PageRow → Type 0
AreApart xs ys = (x y : PageRow) → Contains xs x → Contains ys y → x.key ≡ y.key → ⊥

-- a run more holds the new rows with the old ones, each once
abbrev pub NewRunsHoldEach : Type 0
NewRunsHoldEach = (runs : List (List PageRow)) (extra old new : List PageRow) → HasEachOnce (all_rows runs) old → HasEachOnce extra new
    → AreApart (all_rows runs) extra → HasEachOnce (all_rows (runs ++ extra ∷ [])) (old ++ new)

-- what lists hold each once their merge holds each once: nothing is dropped
abbrev pub MergesHoldEach : Type 0
MergesHoldEach = (lists : List (List PageRow)) (rows wanted : List PageRow) → IsMerge lists rows → HasEachOnce (all_rows lists) wanted
    → HasEachOnce rows wanted

-- the merge of the runs and the new rows holds the old rows and the new ones, each once
abbrev pub MergedRunsHoldEach : Type 0
MergedRunsHoldEach = (runs : List (List PageRow)) (extra rows old new : List PageRow) → HasEachOnce (all_rows runs) old → HasEachOnce extra new
    → AreApart (all_rows runs) extra → IsMerge (runs ++ extra ∷ []) rows → HasEachOnce rows (old ++ new)

-- ---- what is left of lists that are being merged

-- the key that came last, if one did
abbrev pub last_key : Option (List ℕ) → List PageRow → Option (List ℕ)
last_key before [] = before
last_key before (r ∷ rows) = last_key (Some r.key) rows

-- the key isn't below the one that is given, if one is
abbrev pub IsNotBelow : Option (List ℕ) → List ℕ → Type 0
IsNotBelow None key = ⊤
IsNotBelow (Some k) key = is_le (text_cmp k key) ≡ true

-- the first row of the list, if it has one, isn't below this key
abbrev pub BeginsAbove : List ℕ → List PageRow → Type 0
BeginsAbove key [] = ⊤
BeginsAbove key (r ∷ rows) = is_le (text_cmp key r.key) ≡ true

-- of all these rows those are merged, and these lists are left
pub record IsMerging (all : List PageRow) (left : List (List PageRow)) (rows : List PageRow) : Type 0 where
  pub rise : RiseAfter None rows
  pub of_all : (r : PageRow) → Contains rows r → Contains all r
  pub left_of_all : (r : PageRow) → Contains (all_rows left) r → Contains all r
  pub each : (r : PageRow) → Contains all r → HasKey rows r.key ⊎ Contains (all_rows left) r
  pub after : (r : PageRow) → Contains (all_rows left) r → IsNotBelow (last_key None rows) r.key
  pub sorted : AllByRecursion (RiseAfter None) left
