-- Looks at pages through a cache that keeps those looked at last.
use Rattle.std.specs.Prelude.{ℕ, ◌≡◌, ◌≤◌, ◌+◌, Bool, true, false, cond, List, [], ◌∷◌, length, take, nat_eq, Result, OnOk}
use Rattle.std.specs.List.{list_any}

-- without the first of them that is this page
abbrev pub without : ℕ → List ℕ → List ℕ
without p [] = []
without p (q ∷ qs) = cond (nat_eq p q) qs (q ∷ without p qs)

-- the page goes first, and no more than n stay
abbrev pub after_look : ℕ → ℕ → List ℕ → List ℕ
after_look n p kept = take n (p ∷ without p kept)

-- what is kept after looks at these pages, the last look first
abbrev pub after_looks : ℕ → List ℕ → List ℕ → List ℕ
after_looks n [] kept = kept
after_looks n (p ∷ ps) kept = after_look n p (after_looks n ps kept)

-- the page is one of these
abbrev pub is_among : ℕ → List ℕ → Bool
is_among p ps = list_any (nat_eq p) ps

-- of the pages looked at, those that weren't kept when they were looked at
abbrev pub pages_read : ℕ → List ℕ → List ℕ → List ℕ
pages_read n [] kept = []
pages_read n (p ∷ ps) kept = cond (is_among p (after_looks n ps kept)) (pages_read n ps kept) (p ∷ pages_read n ps kept)

-- these pages were looked at, the last look first, and only those were read that weren't kept when they were looked at; where
-- the call ended well, what is kept follows from the looks
pub record Looked {T E : Type 0} (n : ℕ) (ps kept now : List ℕ) (reads later : ℕ) (result : Result T E) : Type 0 where
  pub count : later ≤ reads + length (pages_read n ps kept)
  pub kept_now : OnOk result (now ≡ after_looks n ps kept)

-- the same of some pages, of which there may be so many
pub record Looks {T E : Type 0} (n : ℕ) (MaySo : ℕ → Type 0) (kept now : List ℕ) (reads later : ℕ) (result : Result T E) : Type 0 where
  pub pages : List ℕ
  pub few : MaySo (length pages)
  pub looked : Looked n pages kept now reads later result

-- ---- laws

-- the last n pages looked at are kept
abbrev pub KeepsTheLast : Type 0
KeepsTheLast = (n : ℕ) (ps kept : List ℕ) (p : ℕ) → is_among p (take n ps) ≡ true → is_among p (after_looks n ps kept) ≡ true

-- no page is among those that follow it
abbrev pub AreDistinct : List ℕ → Type 0
AreDistinct [] = Unit {0}
AreDistinct (p ∷ ps) = (is_among p ps ≡ false) × AreDistinct ps

-- in n looks each page is read once at most
abbrev pub ReadsOnce : Type 0
ReadsOnce = (n : ℕ) (ps kept : List ℕ) → length ps ≤ n → AreDistinct (pages_read n ps kept)
