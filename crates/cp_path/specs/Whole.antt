-- The range of whole numbers.
use Rattle.std.specs.Prelude.{ℤ, pos, negsuc, ◌≤ℤ◌}

-- from -2^63 to 2^64-1
abbrev pub IsWhole : ℤ → Type 0
IsWhole n = (negsuc 9223372036854775807 ≤ℤ n) × (n ≤ℤ pos 18446744073709551615)
