-- What contracts see of a journal.
use Rattle.std.specs.Prelude.{ℕ, ◌+◌, ◌≡◌, ◌≤◌, ◌==◌, Bool, if◌then◌else◌, IsTrue, None, Some, List, [], ◌∷◌, length, take, drop}
use Rattle.std.specs.declared.option.Option.{Option}
use Rattle.cp_disk.specs.Views.{View}
use Rattle.cp_disk.specs.declared.limits.TheConstants.{DISK_MAX}
use Rattle.cp_journal.specs.Frames.{Frame, spelled_all, Walk}
use Rattle.cp_journal.specs.Holding.{AreLawful, Holds}
use Rattle.cp_journal.specs.declared.frame.FrameAt.{FrameAt}
use Rattle.cp_journal.specs.declared.frame.TheConstants.{ENTRY}
use Rattle.cp_journal.specs.declared.limits.TheConstants.{FRAME_HEAD}

-- A journal.
pub record JournalState : Type 0 where
  -- Where its frames stand, in order.
  pub frames : List FrameAt
  -- The offset of the gate after them.
  pub next : ℕ
  -- The bytes so far of the body of the frame of a checkpoint that is begun there, if one is.
  pub begun : Option ℕ
  -- That offset, where no frame stands whole at an open gate there.
  pub broken : Option ℕ
  -- A call that writes has failed, or ran out of memory.
  pub spent : Bool

-- The offset after a frame.
abbrev pub end_of : FrameAt → ℕ
end_of f = f.at + FRAME_HEAD + f.len

-- These frames end within the most bytes of a file.
abbrev pub AreInRange : List FrameAt → Type 0
AreInRange [] = Unit {0}
AreInRange (f ∷ fs) = (end_of f ≤ DISK_MAX) × AreInRange fs

-- A frame that is begun at this offset, if one is, ends within the most bytes of a file.
abbrev pub HasRoomFor : ℕ → Option ℕ → Type 0
HasRoomFor at None = Unit {0}
HasRoomFor at (Some len) = at + FRAME_HEAD + len ≤ DISK_MAX

-- Where the next piece of the frame that is begun at this offset goes; where none is, that offset.
abbrev pub next_byte : ℕ → Option ℕ → ℕ
next_byte at None = at
next_byte at (Some len) = at + FRAME_HEAD + len

-- The places of frames that follow each other from an offset on.
abbrev pub places : ℕ → List Frame → List FrameAt
places at [] = []
places at (f ∷ fs) = record { at = at; tag = f.tag; len = length f.body } ∷ places (at + FRAME_HEAD + length f.body) fs

-- The journal lists these frames, and from this offset on they stand in the file one after the other.
pub record Lists (from : ℕ) (fs : List Frame) (j : JournalState) (c : List ℕ) : Type 0 where
  pub lawful : AreLawful fs
  pub frames : j.frames ≡ places from fs
  pub bytes : take (length (spelled_all fs)) (drop from c) ≡ spelled_all fs

-- The bytes that a journal gives for a frame: the body of an entry, of a checkpoint none.
abbrev pub entry_body : Frame → List ℕ
entry_body f = if f.tag == ENTRY then f.body else []

-- The offset after the frames of a walk from this one.
abbrev pub walk_end : ℕ → Walk → ℕ
walk_end from w = from + length (spelled_all w.frames)

-- The journal lists the frames of the walk from this offset, and the gate at which that ended without being closed.
pub record HasWalked (from : ℕ) (w : Walk) (j : JournalState) (c : List ℕ) : Type 0 where
  pub lists : Lists from w.frames j c
  pub broken : j.broken ≡ (if w.clean then None else Some (walk_end from w))
  pub next : IsTrue w.clean → j.next ≡ walk_end from w

-- The disk's content begins so, and then come these frames, which are those of the journal, up to a closed gate.
pub record Describes (head : List ℕ) (fs : List Frame) (j : JournalState) (v : View) : Type 0 where
  pub holds : Holds head fs j.next v
  pub lists : Lists (length head) fs j v.content
