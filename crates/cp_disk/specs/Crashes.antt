-- What a crash leaves of a disk in memory.
use Rattle.std.specs.Prelude.{ℕ, ◌≡◌, ◌≤◌, ◌<◌, ◌⊎◌, List, length, get_or}
use Rattle.cp_disk.specs.Images.{FileState, IsInside}
use Rattle.cp_disk.specs.declared.replay.Crash.{Crash}
use Rattle.cp_disk.specs.declared.replay.Crash.TheVariants.{Old, New, Fill}

-- The byte at this offset was written since the last sync, or the file has once been too short for it since then.
abbrev pub IsPending : FileState → ℕ → Type 0
IsPending s i = IsInside s.ranges i ⊎ (s.least ≤ i)

-- The content, with this byte in place of each that is pending.
pub record IsFilled (byte : ℕ) (s : FileState) (c : List ℕ) : Type 0 where
  pub size : length c ≡ length s.content
  pub pending : (i : ℕ) → i < length c → IsPending s i → get_or c i 0 ≡ byte
  pub others : (i : ℕ) → i < length c → (IsPending s i → ⊥) → get_or c i 0 ≡ get_or s.content i 0

-- What this crash leaves of a file: the content of the last sync, the content now, or that with each pending byte replaced.
abbrev pub LeavesImage : Crash → FileState → List ℕ → Type 0
LeavesImage Old s c = c ≡ s.base
LeavesImage New s c = c ≡ s.content
LeavesImage (Fill byte) s c = IsFilled byte s c
