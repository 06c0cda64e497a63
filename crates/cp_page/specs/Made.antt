-- A page that is being filled.
use Rattle.std.specs.Prelude.{ℕ, ◌≡◌, ◌≤◌, ◌+◌, ◌-◌, List, [], ◌++◌, length, take, drop}
use Rattle.std.specs.declared.option.Option.{Option}
use Rattle.std.specs.declared.option.Option.TheVariants.{None, Some}
use Rattle.cp_page.specs.Rows.{rows_of}
use Rattle.cp_page.specs.Spelled.{RiseAfter, page_bytes, used_by}
use Rattle.cp_page.specs.declared.page.TheConstants.{PAGE_SIZE}
use Rattle.cp_page.specs.declared.row.PageRow.{PageRow}

-- the bytes with these in place of those at an offset
abbrev pub with_part : List ℕ → ℕ → List ℕ → List ℕ
with_part bytes at part = take at bytes ++ (part ++ drop (at + length part) bytes)

-- the rows, none where there are none
abbrev pub or_none : Option (List PageRow) → List PageRow
or_none None = []
or_none (Some rows) = rows

-- the rows of a page with these bytes
abbrev pub rows_in : List ℕ → List PageRow
rows_in bytes = or_none (rows_of bytes)

-- the bytes are those of the rows and zeros, and so many are used
pub record IsMade (rows : List PageRow) (bytes : List ℕ) (used : ℕ) : Type 0 where
  pub size : used ≡ used_by rows
  pub fits : used ≤ PAGE_SIZE
  pub spelled : bytes ≡ page_bytes rows (PAGE_SIZE - used)
  pub rise : RiseAfter None rows
