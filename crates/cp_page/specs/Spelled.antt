-- How rows are spelled in a page.
use Rattle.std.specs.Prelude.{ℕ, ◌≡◌, ◌<◌, ◌+◌, ◌-◌, ◌/◌, ◌%◌, true, List, [], ◌∷◌, ◌++◌, length, replicate}
use Rattle.std.specs.List.{AllByRecursion}
use Rattle.std.specs.declared.option.Option.{Option}
use Rattle.std.specs.declared.option.Option.TheVariants.{None, Some}
use Rattle.cp_page.specs.Keys.{key_of_first, first_key}
use Rattle.cp_page.specs.Rows.{is_after, rows_of}
use Rattle.cp_page.specs.declared.page.TheConstants.{PAGE_SIZE}
use Rattle.cp_page.specs.declared.row.PageRow.{PageRow}

-- bytes after their number in two bytes, the highest first
abbrev pub counted : List ℕ → List ℕ
counted b = length b / 256 ∷ length b % 256 ∷ b

-- a key and a value
abbrev pub row_bytes : PageRow → List ℕ
row_bytes r = counted r.key ++ counted r.value

-- rows one after another
abbrev pub rows_bytes : List PageRow → List ℕ
rows_bytes [] = []
rows_bytes (r ∷ rs) = row_bytes r ++ rows_bytes rs

-- the number of rows, the rows, and so many zeros
abbrev pub page_bytes : List PageRow → ℕ → List ℕ
page_bytes rows zeros = length rows / 256 ∷ length rows % 256 ∷ (rows_bytes rows ++ replicate zeros 0)

-- the bytes of these rows with their number
abbrev pub used_by : List PageRow → ℕ
used_by rows = 2 + length (rows_bytes rows)

-- the page with these rows, and zeros after them
abbrev pub padded : List PageRow → List ℕ
padded rows = page_bytes rows (PAGE_SIZE - used_by rows)

-- each key is after the one before it, the first after the one that is given, if one is
abbrev pub RiseAfter : Option (List ℕ) → List PageRow → Type 0
RiseAfter before [] = Unit {0}
RiseAfter before (r ∷ rs) = (is_after before r.key ≡ true) × RiseAfter (Some r.key) rs

-- ---- laws

-- rows whose keys rise are read as they are spelled
abbrev pub ReadsWhatIsSpelled : Type 0
ReadsWhatIsSpelled = (rows : List PageRow) (zeros : ℕ) → RiseAfter None rows → rows_of (page_bytes rows zeros) ≡ Some rows

-- a page from which rows are read is the one that spells them, and their keys rise
abbrev pub ReadsNothingElse : Type 0
ReadsNothingElse = (bytes : List ℕ) (rows : List PageRow) → AllByRecursion (λ b. b < 256) bytes → length bytes ≡ PAGE_SIZE
    → rows_of bytes ≡ Some rows → (bytes ≡ padded rows) × RiseAfter None rows

-- the first key of a page is that of the first of its rows
abbrev pub FirstKeysAreOfRows : Type 0
FirstKeysAreOfRows = (bytes : List ℕ) (rows : List PageRow) → rows_of bytes ≡ Some rows → first_key bytes ≡ Some (key_of_first rows)
