-- Formats: which values have a spelling as bytes, and the first byte with which no spelling goes on.
use Rattle.std.specs.Prelude.{ℕ, ◌≡◌, ◌≤◌, ◌<◌, ◌+◌, ◌-◌, Bool, true, List, [], ◌++◌, length, map, take, drop}
use Rattle.std.specs.List.{AllByRecursion}

-- what else is asked of a value, judged as soon as the byte at this offset of its spelling is there
pub record Check : Type 0 where
  pub last : ℕ
  pub holds : Bool

-- nothing else is asked
abbrev pub unchecked : {X : Type 0} → X → List Check
unchecked x = []

-- the checks of a part that stands after so many bytes of the whole
abbrev pub moved : ℕ → List Check → List Check
moved n cs = map (λ c. record { last = n + c.last; holds = c.holds }) cs

-- all checks hold
abbrev pub AllHold : List Check → Type 0
AllHold cs = AllByRecursion (λ c. c.holds ≡ true) cs

-- the checks that are judged within the first n bytes hold
abbrev pub HoldWithin : ℕ → List Check → Type 0
HoldWithin n cs = AllByRecursion (λ c. c.last < n → c.holds ≡ true) cs

-- which values are fit, how each is spelled, and what else is asked of it: it has a spelling where all that holds
pub record Format (X : Type 0) : Type 1 where
  pub fit : X → Type 0
  pub bytes : X → List ℕ
  pub checks : X → List Check

-- the bytes are the spelling of x, and then the rest
pub record Reads {X : Type 0} (F : Format X) (bytes : List ℕ) (x : X) (rest : List ℕ) : Type 0 where
  pub fit : F.fit x
  pub checked : AllHold (F.checks x)
  pub is : bytes ≡ F.bytes x ++ rest

-- some spelling begins with the bytes, as far as they tell
pub record Goes {X : Type 0} (F : Format X) (bytes : List ℕ) : Type 0 where
  pub first : X
  pub fit : F.fit first
  pub checked : HoldWithin (length bytes) (F.checks first)
  pub rest : List ℕ
  pub is : F.bytes first ≡ bytes ++ rest

-- no spelling stands at the front of the bytes, and the byte after the first n is the first with which none goes on, or the bytes end there
pub record Stops {X : Type 0} (F : Format X) (bytes : List ℕ) (n : ℕ) : Type 0 where
  pub within : n ≤ length bytes
  pub begins : Goes F (take n bytes)
  pub stops : n < length bytes → Goes F (take (n + 1) bytes) → ⊥
  pub none : (x : X) (rest : List ℕ) → Reads F bytes x rest → ⊥

-- at the offset stands the spelling of x, and next is the offset behind it
pub record ReadsAt {X : Type 0} (F : Format X) (bytes : List ℕ) (at : ℕ) (x : X) (next : ℕ) : Type 0 where
  pub reads : Reads F (drop at bytes) x (drop next bytes)
  pub count : next ≡ at + length (F.bytes x)
  pub within : next ≤ length bytes

-- at the offset stands a spelling, and next is the offset behind it
pub record StandsAt {X : Type 0} (F : Format X) (bytes : List ℕ) (at next : ℕ) : Type 0 where
  pub value : X
  pub reads : ReadsAt F bytes at value next

-- from the offset on the spelling stops at the offset n
pub record FailsAt {X : Type 0} (F : Format X) (bytes : List ℕ) (at n : ℕ) : Type 0 where
  pub past : at ≤ n
  pub stops : Stops F (drop at bytes) (n - at)

-- no spelling begins another, and each is that of one value
abbrev pub IsExact : {X : Type 0} → Format X → Type 0
IsExact {X} F = (x y : X) (xs ys : List ℕ) → F.fit x → F.fit y → F.bytes x ++ xs ≡ F.bytes y ++ ys → (x ≡ y) × (xs ≡ ys)
