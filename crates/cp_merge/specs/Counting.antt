-- The rows of a run as a merge counts them.
use Rattle.std.specs.Prelude.{ℕ, zero, suc, ◌≡◌, ◌+◌, ◌==◌, List, [], ◌∷◌, ◌++◌, length, if◌then◌else◌}
use Rattle.std.specs.declared.option.Option.{Option}
use Rattle.std.specs.declared.option.Option.TheVariants.{None, Some}
use Rattle.cp_page.specs.Made.{rows_in}
use Rattle.cp_page.specs.Rows.{is_after}
use Rattle.cp_page.specs.Spelled.{RiseAfter}
use Rattle.cp_page.specs.declared.page.TheConstants.{PAGE_SIZE}
use Rattle.cp_page.specs.declared.row.PageRow.{PageRow}
use Rattle.cp_run.specs.Holding.{page_at, run_rows, IsRunOfRows}
use Rattle.cp_run.specs.declared.run.Run.{Run}
use Rattle.cp_merge.specs.Merging.{last_key}

-- these bytes, if they are a whole page
abbrev pub whole_page : List ℕ → Option (List ℕ)
whole_page bytes = if length bytes == PAGE_SIZE then Some bytes else None

-- the rows of a page, none where there is none or it isn't one of rows
abbrev pub rows_or_none : Option (List ℕ) → List PageRow
rows_or_none None = []
rows_or_none (Some bytes) = rows_in bytes

-- the rows, if they come after the key that is given, if one is
abbrev pub if_after : Option (List ℕ) → List PageRow → List PageRow
if_after before [] = []
if_after before (r ∷ rows) = if is_after before r.key then r ∷ rows else []

-- the rows of the page at this offset that count after this key: none where it doesn't lie whole in the file, isn't one of rows,
-- or doesn't begin above that key
abbrev pub counted_at : List ℕ → Option (List ℕ) → ℕ → List PageRow
counted_at content before at = if_after before (rows_or_none (whole_page (page_at content at)))

-- the rows that count of so many pages from this offset on, after this key
abbrev pub counted_from : List ℕ → Option (List ℕ) → ℕ → ℕ → List PageRow
counted_from content before at zero = []
counted_from content before at (suc n) = counted_at content before at
    ++ counted_from content (last_key before (counted_at content before at)) (at + PAGE_SIZE) n

-- the rows of a run that count
abbrev pub counted_rows : List ℕ → Run → List PageRow
counted_rows content run = counted_from content None run.at run.pages

-- ---- laws

-- of a run of rows each row counts
abbrev pub RunsCountWhole : Type 0
RunsCountWhole = (content : List ℕ) (run : Run) → IsRunOfRows content run → counted_rows content run ≡ run_rows content run

-- the rows that count rise, whatever the pages are
abbrev pub CountedRowsRise : Type 0
CountedRowsRise = (content : List ℕ) (run : Run) → RiseAfter None (counted_rows content run)
