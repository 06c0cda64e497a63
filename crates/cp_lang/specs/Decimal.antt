-- Decimal numbers below 2^64.
use Rattle.std.specs.Prelude.{ℕ, ◌==◌, ◌&&◌, ◌||◌, ◌^◌, List, Bool, not, if◌then◌else◌, nat_lt, nat_le, length, Option, Some, None, slice_index}
use Rattle.std.specs.List.{list_all}
use Rattle.std.specs.Str.Parse.{digits_value}
use Rattle.cp_path.specs.Text.{is_digit}

-- digits without a leading zero
abbrev pub is_decimal : List ℕ → Bool
is_decimal word = nat_le 1 (length word) && ((length word == 1 || not (slice_index word 0 == 48)) && list_all is_digit word)

-- the number below 2^64 that the word spells
abbrev pub decimal_value : List ℕ → Option ℕ
decimal_value word = if is_decimal word && nat_lt (digits_value 10 word) (2 ^ 64) then Some (digits_value 10 word) else None
