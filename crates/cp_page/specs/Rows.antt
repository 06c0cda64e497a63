-- The rows of a page: its bytes read row by row.
use Rattle.std.specs.Prelude.{ℕ, zero, suc, ◌==◌, Bool, true, List, [], ◌∷◌, length, take, drop, nat_lt, if◌then◌else◌}
use Rattle.std.specs.List.{list_all}
use Rattle.std.specs.Ordering.{is_le, is_lt}
use Rattle.std.specs.Option.{option_map}
use Rattle.std.specs.declared.option.Option.{Option}
use Rattle.std.specs.declared.option.Option.TheVariants.{None, Some}
use Rattle.cp_path.specs.Text.{text_cmp}
use Rattle.cp_page.specs.Keys.{number_at}
use Rattle.cp_page.specs.declared.row.Cell.{Cell}
use Rattle.cp_page.specs.declared.row.PageRow.{PageRow}

-- the row of this key and this value
abbrev pub row_of : List ℕ → List ℕ → PageRow
row_of key value = record { key = key; value = value }

-- the row that a cell shows
abbrev pub shown : Cell → PageRow
shown c = row_of c.key.now c.value.now

-- so many of the bytes, if they are there, and those after them
abbrev pub split : ℕ → List ℕ → Option (List ℕ × List ℕ)
split n bytes = if nat_lt (length bytes) n then None else Some (take n bytes, drop n bytes)

-- bytes after their number in two bytes, and those after them
abbrev pub take_counted : List ℕ → Option (List ℕ × List ℕ)
take_counted bytes = if nat_lt (length bytes) 2 then None else split (number_at bytes 0) (drop 2 bytes)

-- the value after a key
abbrev pub value_after : Option (List ℕ × List ℕ) → Option (PageRow × List ℕ)
value_after None = None
value_after (Some k) = option_map (λ v. (row_of k.0 v.0, v.1)) (take_counted k.1)

-- a row, and the bytes after it
abbrev pub take_row : List ℕ → Option (PageRow × List ℕ)
take_row bytes = value_after (take_counted bytes)

-- the key is after the one that is given, if one is
abbrev pub is_after : Option (List ℕ) → List ℕ → Bool
is_after None key = true
is_after (Some k) key = is_lt (text_cmp k key)

-- a row before others
abbrev pub and_rows : PageRow → Option (List PageRow) → Option (List PageRow)
and_rows r rs = option_map (λ l. r ∷ l) rs

-- the row, if it is after the one before it, and the rows that are read after it
abbrev pub row_on : (Option (List ℕ) → List ℕ → Option (List PageRow)) → Option (List ℕ) → Option (PageRow × List ℕ) → Option (List PageRow)
row_on on before None = None
row_on on before (Some x) = if is_after before x.0.key then and_rows x.0 (on (Some x.0.key) x.1) else None

-- so many rows whose keys rise, and zeros after them
unfoldable pub rows_from : ℕ → Option (List ℕ) → List ℕ → Option (List PageRow)
rows_from zero before bytes = if list_all (λ b. b == 0) bytes then Some [] else None
rows_from (suc n) before bytes = row_on (rows_from n) before (take_row bytes)

-- the rows of a page with these bytes; none where they are no page's
unfoldable pub rows_of : List ℕ → Option (List PageRow)
rows_of bytes = rows_from (number_at bytes 0) None (drop 2 bytes)

-- the last of these rows whose key isn't above, or the one that is given
abbrev pub last_from : List ℕ → Option PageRow → List PageRow → Option PageRow
last_from key best [] = best
last_from key best (r ∷ rs) = last_from key (if is_le (text_cmp r.key key) then Some r else best) rs

-- the last of these rows whose key isn't above; where keys rise, the greatest
abbrev pub greatest : List ℕ → List PageRow → Option PageRow
greatest key rows = last_from key None rows
