-- Where a file stops being a store: the first place in it that can't be as it is.
use Rattle.std.specs.Prelude.{ℕ, ◌≡◌, ◌+◌, ◌⊎◌, nat_lt, Bool, false, List, [], length, take, drop, fold, if◌then◌else◌}
use Rattle.std.specs.List.{slice_get}
use Rattle.std.specs.declared.option.Option.{Option}
use Rattle.std.specs.declared.option.Option.TheVariants.{None, Some}
use Rattle.cp_model.specs.History.{State}
use Rattle.cp_journal.specs.Frames.{Frame, Walk, frames_of, spelled_all}
use Rattle.cp_journal.specs.Headers.{HasHeader}
use Rattle.cp_journal.specs.declared.header.Header.{Header}
use Rattle.cp_journal.specs.declared.header.Slot.{Slot}
use Rattle.cp_journal.specs.declared.limits.TheConstants.{HEADER_SIZE}
use Rattle.cp_frame.specs.Items.{Item, AllStand, AreHeld, CanStand, IsHeld, after_item}
use Rattle.cp_frame.specs.Stands.{header_of}

-- ---- slots

-- the offset of the slot that is open, of two that of the greater number
abbrev pub newest : Option Slot → Option Slot → Option ℕ
newest None None = None
newest (Some a) None = Some 64
newest None (Some b) = Some 128
newest (Some a) (Some b) = if nat_lt b.seq a.seq then Some 64 else Some 128

-- the offset of the slot of a header that counts, if one is open
abbrev pub open_slot : Header → Option ℕ
open_slot h = newest h.first h.second

-- ---- frames

-- in a file of this version the frame holds nothing that may follow this state
abbrev pub IsRefused : ℕ → Option State → Frame → Type 0
IsRefused version o f = (i : Item) → IsHeld version f i → CanStand false o i → ⊥

-- the frames before one hold items that may follow each other, from this state on, and it holds none that may; its gate is at the offset
pub record StopsAtFrame (from version : ℕ) (first : Option State) (frames : List Frame) (at : ℕ) : Type 0 where
  pub number : ℕ
  pub frame : Frame
  pub there : slice_get frames number ≡ Some frame
  pub items : List Item
  pub held : AreHeld version (take number frames) items
  pub stand : AllStand false first items
  pub refused : IsRefused version (fold after_item first items) frame
  pub place : at ≡ from + length (spelled_all (take number frames))

-- all frames hold such items, but there are none, or one that is cut short comes after them; its gate is at the offset
pub record StopsAfterFrames (from version : ℕ) (first : Option State) (walk : Walk) (at : ℕ) : Type 0 where
  pub items : List Item
  pub held : AreHeld version walk.frames items
  pub stand : AllStand false first items
  pub ended : (walk.frames ≡ []) ⊎ (walk.clean ≡ false)
  pub place : at ≡ from + length (spelled_all walk.frames)

-- the walk from an offset on stops at this gate
abbrev pub StopsWalk : ℕ → ℕ → Option State → Walk → ℕ → Type 0
StopsWalk from version first walk at = StopsAtFrame from version first walk.frames at ⊎ StopsAfterFrames from version first walk at

-- ---- a file

-- a file stops at 0 where it has no header; at its open slot; else at the gate at which the walk from its first frame on stops
pub data StopsAt (c : List ℕ) (at : ℕ) : Type 0 where
  at_header : (HasHeader c → ⊥) → at ≡ 0 → StopsAt c at
  at_slot : HasHeader c → open_slot (header_of c) ≡ Some at → StopsAt c at
  at_gate : HasHeader c → open_slot (header_of c) ≡ None → StopsWalk HEADER_SIZE (header_of c).version None (frames_of (drop HEADER_SIZE c)) at → StopsAt c at

-- the file is none of these, and stops being a store at this offset
pub record IsNot (Is : List ℕ → Type 0) (c : List ℕ) (at : ℕ) : Type 0 where
  pub never : Is c → ⊥
  pub stops : StopsAt c at
