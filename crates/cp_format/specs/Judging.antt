-- What the beginning of a spelling tells of a test that is made at one of its bytes.
use Rattle.std.specs.Prelude.{ℕ, ◌≡◌, ◌<◌, ◌+◌, Bool, true, false, List, ◌++◌, length, take}
use Rattle.cp_format.specs.Formats.{Format}

-- each value whose spelling begins as these bytes do, up to the one at this offset, fails the test, which is made at that byte
pub record IsRefused {X : Type 0} (F : Format X) (test : X → Bool) (last : X → ℕ) (bytes : List ℕ) (at : ℕ) : Type 0 where
  pub there : at < length bytes
  pub refused : (x : X) (rest : List ℕ) → F.fit x → F.bytes x ≡ take (at + 1) bytes ++ rest → (test x ≡ false) × (last x ≡ at)

-- each value whose spelling begins with these bytes passes the test, if it is made at one of them
abbrev pub MayPass : {X : Type 0} → Format X → (X → Bool) → (X → ℕ) → List ℕ → Type 0
MayPass {X} F test last bytes = (x : X) (rest : List ℕ) → F.fit x → F.bytes x ≡ bytes ++ rest → last x < length bytes → test x ≡ true
