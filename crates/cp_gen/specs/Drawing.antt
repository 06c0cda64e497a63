-- The numbers that are drawn.
use Rattle.std.specs.Prelude.{ℕ, ◌+◌, ◌*◌, ◌/◌, ◌%◌, ◌^◌}
use Rattle.cp_gen.specs.declared.limits.TheConstants.{INCREMENT, MULTIPLIER}

-- the state of the draws after one more
unfoldable pub next_draw : ℕ → ℕ
next_draw x = (x * MULTIPLIER + INCREMENT) % 2 ^ 64

-- the number that a state gives: its upper 31 bits
unfoldable pub drawn_number : ℕ → ℕ
drawn_number x = x / 2 ^ 33
