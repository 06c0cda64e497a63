-- What a file of version 1 becomes when it is made one of version 2, and what a crash leaves of it.
use Rattle.std.specs.Prelude.{ℕ, ◌+◌, ◌≡◌, ◌⊎◌, List, [], ◌∷◌, length, take, drop}
use Rattle.cp_disk.specs.Writes.{with_bytes}
use Rattle.cp_journal.specs.Frames.{Frame}
use Rattle.cp_journal.specs.Headers.{header_in, HasHeader}
use Rattle.cp_journal.specs.Holding.{Stands}
use Rattle.cp_journal.specs.declared.header.Header.{Header}
use Rattle.cp_journal.specs.declared.limits.TheConstants.{HEADER_SIZE, VERSION_AT}

-- The file with the gate of its version open, and no other change.
abbrev pub upgraded : List ℕ → List ℕ
upgraded old = with_bytes old VERSION_AT (1 ∷ [])

-- The two files are equally long, and differ at most in the gate of the version.
pub record HasOtherVersion (old new : List ℕ) : Type 0 where
  pub before : take VERSION_AT new ≡ take VERSION_AT old
  pub after : drop (VERSION_AT + 1) new ≡ drop (VERSION_AT + 1) old
  pub size : length new ≡ length old

-- The file begins with the header of a store, which says this.
abbrev pub SaysHeader : Header → List ℕ → Type 0
SaysHeader h c = HasHeader c × (header_in (take HEADER_SIZE c) ≡ h)

-- A header with this version in place of its own.
abbrev pub with_version : ℕ → Header → Header
with_version version h = record h { version = version }

-- The file begins with the header of a store, which says this with version 1 or 2.
abbrev pub SaysInAVersion : Header → List ℕ → Type 0
SaysInAVersion h c = SaysHeader (with_version 1 h) c ⊎ SaysHeader (with_version 2 h) c

-- The file begins so but for the version, and then come these frames and a closed gate.
abbrev pub StandsInAVersion : List ℕ → List Frame → List ℕ → Type 0
StandsInAVersion head fs c = (other : List ℕ) × HasOtherVersion head other × Stands other fs c
