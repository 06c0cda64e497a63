-- How rows are cut into pages.
use Rattle.std.specs.Prelude.{ℕ, ◌≡◌, ◌+◌, Bool, List, [], ◌∷◌, ◌++◌, length, nat_le, if◌then◌else◌}
use Rattle.std.specs.declared.option.Option.{Option}
use Rattle.std.specs.declared.option.Option.TheVariants.{None, Some}
use Rattle.cp_page.specs.Spelled.{row_bytes, used_by, padded}
use Rattle.cp_page.specs.declared.page.TheConstants.{PAGE_SIZE}
use Rattle.cp_page.specs.declared.row.PageRow.{PageRow}

-- the row fits into the page with these
abbrev pub has_room : List PageRow → PageRow → Bool
has_room rows r = nat_le (used_by rows + length (row_bytes r)) PAGE_SIZE

-- the rows of the page after this one: behind its rows where it fits, else alone
abbrev pub rows_then : List PageRow → PageRow → List PageRow
rows_then rows r = if has_room rows r then rows ++ r ∷ [] else r ∷ []

-- the page that a row ends, if it doesn't fit
abbrev pub page_ended : List PageRow → PageRow → Option (List ℕ)
page_ended rows r = if has_room rows r then None else Some (padded rows)

-- the page of the last rows, if there are any
abbrev pub last_page : List PageRow → Option (List ℕ)
last_page [] = None
last_page (r ∷ rs) = Some (padded (r ∷ rs))

-- the rows of the last page, if there are any
abbrev pub last_rows : List PageRow → List (List PageRow)
last_rows [] = []
last_rows (r ∷ rs) = (r ∷ rs) ∷ []

-- rows cut into pages after those that the page has: each goes into the page where it fits, else it begins the next
abbrev pub cut_from : List PageRow → List PageRow → List (List PageRow)
cut_from page [] = last_rows page
cut_from page (r ∷ rs) = if has_room page r then cut_from (page ++ r ∷ []) rs else page ∷ cut_from (r ∷ []) rs

-- rows cut into pages
abbrev pub cut : List PageRow → List (List PageRow)
cut rows = cut_from [] rows

-- the rows of all pages
abbrev pub all_rows : List (List PageRow) → List PageRow
all_rows [] = []
all_rows (rows ∷ pages) = rows ++ all_rows pages

-- the pages hold the rows in order, none lost and none more
abbrev pub CutsHoldAll : Type 0
CutsHoldAll = (rows : List PageRow) → all_rows (cut rows) ≡ rows
