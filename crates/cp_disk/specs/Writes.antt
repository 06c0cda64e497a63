-- What a write and a cut make of a file, and what is left of it where a crash cuts them short.
use Rattle.std.specs.Prelude.{ℕ, ◌+◌, ◌≡◌, ◌≤◌, min, max, List, ◌++◌, length, take, drop}

-- These bytes, from this offset on, in place of those that stood there.
abbrev pub with_bytes : List ℕ → ℕ → List ℕ → List ℕ
with_bytes old at bytes = take at old ++ (bytes ++ drop (at + length bytes) old)

-- A write of n bytes that a crash cuts short leaves any bytes in its range and after the old end, and a size of old to new.
pub record Torn (at n : ℕ) (old new : List ℕ) : Type 0 where
  pub before : take at new ≡ take at old
  pub after : drop (at + n) new ≡ drop (at + n) old
  pub no_shorter : length old ≤ length new
  pub no_longer : length new ≤ max (length old) (at + n)

-- A cut that a crash cuts short leaves any bytes after the new end, and a size of new to old.
pub record CutShort (size : ℕ) (old new : List ℕ) : Type 0 where
  pub front : take size new ≡ take size old
  pub no_shorter : min size (length old) ≤ length new
  pub no_longer : length new ≤ length old
