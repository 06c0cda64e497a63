-- The frames of a file: what one is spelled as, what stands at a gate, and the walk from gate to gate.
use Prim.Native.Nat.{zero, suc}
use Rattle.std.specs.Prelude.{ℕ, ◌==◌, Bool, true, false, ◌&&◌, ◌||◌, List, [], ◌∷◌, ◌++◌, length, take, drop, if◌then◌else◌}
use Rattle.std.specs.Int.{w64, to_be_bytes, from_be_bytes}
use Rattle.std.specs.List.{flat_map}
use Rattle.cp_journal.specs.declared.limits.TheConstants.{BODY_MAX}
use Rattle.cp_journal.specs.declared.frame.TheConstants.{ENTRY, CHECKPOINT}
use lib.Dec.{leb}

-- A frame: a tag and a body.
pub record Frame : Type 0 where
  pub tag : ℕ
  pub body : List ℕ

-- The frame of an entry with this body.
abbrev pub entry : List ℕ → Frame
entry body = record { tag = ENTRY; body = body }

-- There may be a frame with this tag and so long a body: an entry within the limit, or a checkpoint.
abbrev pub fits : ℕ → ℕ → Bool
fits tag len = ((tag == ENTRY) && leb len BODY_MAX) || (tag == CHECKPOINT)

-- A frame as bytes: an open gate, the tag, the length of the body in eight bytes, and the body.
abbrev pub spelled : Frame → List ℕ
spelled f = 1 ∷ f.tag ∷ (to_be_bytes w64 (length f.body) ++ f.body)

-- Frames as bytes, one right after the other.
abbrev pub spelled_all : List Frame → List ℕ
spelled_all fs = flat_map spelled fs

-- What is written after the closed gate of a frame: the rest of the frame, and the closed gate of the next one.
abbrev pub after_gate : Frame → List ℕ
after_gate f = f.tag ∷ (to_be_bytes w64 (length f.body) ++ f.body) ++ 0 ∷ []

-- What stands at a gate: it is closed, or no frame stands there whole, or a frame does and these bytes come after it.
pub data Gate : Type 0 where
  closed : Gate
  broken : Gate
  whole : Frame → List ℕ → Gate

-- The frame of this tag whose body is so many of these bytes.
abbrev pub frame_of : ℕ → ℕ → List ℕ → Gate
frame_of tag len rest = whole (record { tag = tag; body = take len rest }) (drop len rest)

-- What stands at an open gate, with its tag, its length and the bytes after them.
abbrev pub with_length : ℕ → ℕ → List ℕ → Gate
with_length tag len rest = if (fits tag len && leb len (length rest)) then frame_of tag len rest else broken

-- What stands at an open gate, with the bytes after the gate.
abbrev pub at_open : List ℕ → Gate
at_open [] = broken
at_open (tag ∷ rest) = if leb 8 (length rest) then with_length tag (from_be_bytes w64 (take 8 rest)) (drop 8 rest) else broken

-- What stands at the gate that these bytes begin with.
unfoldable pub gate_at : List ℕ → Gate
gate_at [] = broken
gate_at (gate ∷ rest) = if gate == 1 then at_open rest else closed

-- What a walk from gate to gate finds.
pub record Walk : Type 0 where
  pub frames : List Frame
  -- It ended at a closed gate.
  pub clean : Bool

-- A walk that finds no frame.
abbrev pub ended : Bool → Walk
ended clean = record { frames = []; clean = clean }

-- A walk that finds a frame first.
abbrev pub onto : Frame → Walk → Walk
onto f w = record { frames = f ∷ w.frames; clean = w.clean }

-- The walk from what stands at a gate, where the walk from the bytes after a frame is known.
abbrev pub walk_on : Gate → (List ℕ → Walk) → Walk
walk_on closed go = ended true
walk_on broken go = ended false
walk_on (whole f rest) go = onto f (go rest)

-- The walk over so many gates at most.
unfoldable pub walk : ℕ → List ℕ → Walk
walk zero bytes = ended false
walk (suc n) bytes = walk_on (gate_at bytes) (λ rest. walk n rest)

-- The walk from the gate that these bytes begin with, up to a closed gate or to one at which no frame stands whole.
unfoldable pub frames_of : List ℕ → Walk
frames_of bytes = walk (suc (length bytes)) bytes
