-- The key with which a page begins.
use Rattle.std.specs.Prelude.{ℕ, ◌==◌, ◌+◌, ◌*◌, ◌-◌, List, [], ◌∷◌, length, take, drop, nat_lt, slice_index, if◌then◌else◌}
use Rattle.std.specs.declared.option.Option.{Option}
use Rattle.std.specs.declared.option.Option.TheVariants.{None, Some}
use Rattle.cp_page.specs.declared.row.PageRow.{PageRow}

-- the number in two bytes, the highest first
abbrev pub number_at : List ℕ → ℕ → ℕ
number_at bytes at = slice_index bytes at * 256 + slice_index bytes (at + 1)

-- the first n of the bytes after the two numbers, if there are so many
abbrev pub front_of : ℕ → List ℕ → Option (Option (List ℕ))
front_of n bytes = if nat_lt (length bytes - 4) n then None else Some (Some (take n (drop 4 bytes)))

-- the key of the first row, none where the bytes say that there is no row; no answer where they don't have that key
abbrev pub first_key : List ℕ → Option (Option (List ℕ))
first_key bytes = if number_at bytes 0 == 0 then Some None else front_of (number_at bytes 2) bytes

-- the key of the first row, if there is one
abbrev pub key_of_first : List PageRow → Option (List ℕ)
key_of_first [] = None
key_of_first (r ∷ rs) = Some r.key
