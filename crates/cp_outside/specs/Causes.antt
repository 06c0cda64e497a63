-- When a call may answer that something outside failed, and how its counts go.
use Rattle.std.specs.Prelude.{ℕ, ◌≡◌, ◌≤◌, ◌+◌, ◌-◌, ◌^◌, min, Result, OnOk, IfErr, MatchResult, ⊤}

-- One more than n, but no more than a `u64` holds.
abbrev pub one_more : ℕ → ℕ
one_more n = min (n + 1) (2 ^ 64 - 1)

-- The count rose by one at least, or stands at the end of a `u64`.
abbrev pub Rose : ℕ → ℕ → Type 0
Rose before now = one_more before ≤ now

-- The account of the failures of something outside: their count has not fallen, it rose where the call gave an error that blames it, and it stayed where the call gave none.
pub record Accounts {T E : Type 0} (Blames : E → Type 0) (before now : ℕ) (result : Result T E) : Type 0 where
  pub later : before ≤ now
  pub blamed : IfErr result (λ e. Blames e → Rose before now)
  pub steady : OnOk result (now ≡ before)

-- Whatever the error is, it blames what is outside.
abbrev pub AnyError : {E : Type 0} → E → Type 0
AnyError e = ⊤

-- The count of bytes rose by n where the call gave n bytes, and stayed where it failed.
abbrev pub CountsBytes : {E : Type 0} → ℕ → ℕ → Result ℕ E → Type 0
CountsBytes before now result = MatchResult result (λ n. now ≡ before + n) (λ e. now ≡ before)
