-- What a write took, and which of its errors blame the output.
use Rattle.std.specs.Prelude.{ℕ, ◌≡◌, ◌≤◌, ◌<◌, ◌+◌, ◌-◌, ◌^◌, min, List, length, take, Result, Ok, Err, IfOk}
use Rattle.std.specs.declared.option.Option.{Option}
use Rattle.std.specs.Io.KnownBytes.{Appends}
use Rattle.cp_outside.specs.Causes.{one_more}

-- At `Ok(n)` the n bytes that were taken are one at least, and at most all.
abbrev pub TakesSome : {E : Type 0} → Result ℕ E → List ℕ → Type 0
TakesSome result bytes = IfOk result (λ n. (1 ≤ n) × (n ≤ length bytes))

-- The count of refused writes rose by one where this call was refused, and stayed where it wasn't.
abbrev pub CountsRefusal : {T E : Type 0} → ℕ → ℕ → Result T E → Type 0
CountsRefusal before now (Ok x) = now ≡ before
CountsRefusal before now (Err e) = now ≡ one_more before

-- The count of the bytes that were taken since the last refusal rose by those of this write, up to the end of a `u64`, or begins again at 0 where it was refused.
abbrev pub CountsSince : {E : Type 0} → ℕ → ℕ → Result ℕ E → Type 0
CountsSince before now (Ok n) = now ≡ min (before + n) (2 ^ 64 - 1)
CountsSince before now (Err e) = now ≡ 0

-- A front part of the bytes was taken: none, some or all of them.
abbrev pub TakesPart : Option (List ℕ) → Option (List ℕ) → List ℕ → Type 0
TakesPart old new bytes = (n : ℕ) × (n ≤ length bytes) × Appends old new (take n bytes)

-- The same, and not all of them.
abbrev pub TakesLess : Option (List ℕ) → Option (List ℕ) → List ℕ → Type 0
TakesLess old new bytes = (n : ℕ) × (n < length bytes) × Appends old new (take n bytes)
