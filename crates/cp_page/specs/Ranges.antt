-- The rows of a page from one key to another.
use Rattle.std.specs.Prelude.{ℕ, ◌&&◌, Bool, false, List, [], ◌∷◌, ◌++◌}
use Rattle.std.specs.List.{filter}
use Rattle.std.specs.Ordering.{is_le, is_gt}
use Rattle.cp_path.specs.Text.{text_cmp}
use Rattle.cp_page.specs.declared.row.PageRow.{PageRow}

-- the key isn't below the first and isn't above the second
abbrev pub is_within : List ℕ → List ℕ → List ℕ → Bool
is_within low high key = is_le (text_cmp low key) && is_le (text_cmp key high)

-- those of the rows whose keys are from the first to the second
abbrev pub rows_between : List ℕ → List ℕ → List PageRow → List PageRow
rows_between low high rows = filter (λ r. is_within low high r.key) rows

-- the key of the last of these rows is above this one; where there is no row, as is said
abbrev pub above_from : List ℕ → Bool → List PageRow → Bool
above_from high past [] = past
above_from high past (r ∷ rs) = above_from high (is_gt (text_cmp r.key high)) rs

-- the last of these rows, if there is one, has a key above this one
abbrev pub ends_above : List ℕ → List PageRow → Bool
ends_above high rows = above_from high false rows

-- the rows found before with those of a page from the first key to the second, and whether its last row is above the second
abbrev pub found_with : List ℕ → List ℕ → List PageRow → Bool → List PageRow → List PageRow × Bool
found_with low high found past rows = (found ++ rows_between low high rows, above_from high past rows)
