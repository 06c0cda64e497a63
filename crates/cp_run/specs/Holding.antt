-- The rows of the pages of a run.
use Rattle.std.specs.Prelude.{ℕ, zero, suc, ◌+◌, ◌-◌, ◌*◌, ◌≡◌, ◌≤◌, List, [], ◌∷◌, ◌++◌, length, take, drop}
use Rattle.std.specs.declared.option.Option.TheVariants.{None, Some}
use Rattle.cp_page.specs.Made.{rows_in}
use Rattle.cp_page.specs.Rows.{rows_of}
use Rattle.cp_page.specs.Spelled.{RiseAfter}
use Rattle.cp_page.specs.declared.page.TheConstants.{PAGE_SIZE}
use Rattle.cp_page.specs.declared.row.PageRow.{PageRow}
use Rattle.cp_run.specs.declared.run.Run.{Run}

-- the bytes of the page at this offset of a file
abbrev pub page_at : List ℕ → ℕ → List ℕ
page_at content at = take PAGE_SIZE (drop at content)

-- the rows of so many pages from this offset on; a page that isn't one of rows has none
abbrev pub pages_rows : List ℕ → ℕ → ℕ → List PageRow
pages_rows content at zero = []
pages_rows content at (suc n) = rows_in (page_at content at) ++ pages_rows content (at + PAGE_SIZE) n

-- the rows of a run
abbrev pub run_rows : List ℕ → Run → List PageRow
run_rows content run = pages_rows content run.at run.pages

-- those of its pages from this number on
abbrev pub rows_after : List ℕ → Run → ℕ → List PageRow
rows_after content run n = pages_rows content (run.at + n * PAGE_SIZE) (run.pages - n)

-- the page at this offset lies whole in the file, and is one of rows, of which it has one at least
pub record HasRowsAt (content : List ℕ) (at : ℕ) : Type 0 where
  pub whole : at + PAGE_SIZE ≤ length content
  pub first : PageRow
  pub more : List PageRow
  pub rows : rows_of (page_at content at) ≡ Some (first ∷ more)

-- so many pages from this offset on do
abbrev pub HaveRows : List ℕ → ℕ → ℕ → Type 0
HaveRows content at zero = Unit {0}
HaveRows content at (suc n) = HasRowsAt content at × HaveRows content (at + PAGE_SIZE) n

-- each page of the run does, and keys rise from its first row to its last
pub record IsRunOfRows (content : List ℕ) (run : Run) : Type 0 where
  pub pages : HaveRows content run.at run.pages
  pub rise : RiseAfter None (run_rows content run)
