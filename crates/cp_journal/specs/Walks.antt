-- What a walk over the frames of a file finds, gate by gate.
use Rattle.std.specs.Prelude.{ℕ, ◌+◌, ◌≡◌, ◌≤◌, Bool, List, ◌++◌, length, take, drop, if◌then◌else◌}
use Rattle.std.specs.Int.{w64, from_be_bytes}
use Rattle.cp_journal.specs.Frames.{Frame, spelled, spelled_all, Gate, closed, broken, gate_at}
use Rattle.cp_journal.specs.Holding.{IsLawful, AreLawful}
use Rattle.cp_journal.specs.Journals.{places}
use Rattle.cp_journal.specs.declared.limits.TheConstants.{FRAME_HEAD}
use Rattle.cp_journal.specs.declared.walk.Seen.{Seen}
use Rattle.cp_journal.specs.declared.walk.Seen.TheVariants.{Closed, Broken, Whole}
use Rattle.cp_journal.specs.declared.walk.Walked.{Walked}

-- The length in the nine bytes after a gate.
abbrev pub length_in : List ℕ → ℕ
length_in head = from_be_bytes w64 (take 8 (drop 1 head))

-- The frame of this tag whose body is so many bytes of the file, where its gate stands at this offset.
abbrev pub frame_in : ℕ → List ℕ → ℕ → ℕ → Frame
frame_in at c tag len = record { tag = tag; body = take len (drop (at + FRAME_HEAD) c) }

-- A frame with this tag and so long a body stands whole at this offset.
pub record IsWholeAt (at : ℕ) (c : List ℕ) (tag len : ℕ) : Type 0 where
  pub inside : at + FRAME_HEAD + len ≤ length c
  pub lawful : IsLawful (frame_in at c tag len)
  pub bytes : drop at c ≡ spelled (frame_in at c tag len) ++ drop (at + FRAME_HEAD + len) c

-- This stands at the gate at this offset.
abbrev pub IsSeen : ℕ → List ℕ → Seen → Type 0
IsSeen at c Closed = gate_at (drop at c) ≡ closed
IsSeen at c Broken = gate_at (drop at c) ≡ broken
IsSeen at c (Whole tag len) = IsWholeAt at c tag len

-- A frame that stands at this offset ends within so many bytes.
abbrev pub HasRoom : ℕ → ℕ → Seen → Type 0
HasRoom at size Closed = Unit {0}
HasRoom at size Broken = Unit {0}
HasRoom at size (Whole tag len) = at + FRAME_HEAD + len ≤ size

-- These lawful frames stand from one offset up to another.
pub record Stretches (from : ℕ) (fs : List Frame) (to : ℕ) (c : List ℕ) : Type 0 where
  pub lawful : AreLawful fs
  pub size : to ≡ from + length (spelled_all fs)
  pub bytes : drop from c ≡ spelled_all fs ++ drop to c
  pub inside : to ≤ length c

-- What stands at the gate at which a walk ends, whether it ends clean or not.
abbrev pub end_gate : Bool → Gate
end_gate clean = if clean then closed else broken

-- The walk found the frames from this offset on, and the gate after them.
pub record IsWalked (from : ℕ) (c : List ℕ) (w : Walked) : Type 0 where
  pub found : (fs : List Frame) × Stretches from fs w.next c × (w.frames.items ≡ places from fs)
  pub end : gate_at (drop w.next c) ≡ end_gate w.clean
