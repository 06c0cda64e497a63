-- The frame of a checkpoint, which is written piece by piece after its closed gate.
use Rattle.std.specs.Prelude.{ℕ, ◌+◌, ◌≡◌, ◌≤◌, Some, List, length, take, drop}
use Rattle.cp_disk.specs.Views.{View, KnownDisk, IfKnown, ViewKeeps}
use Rattle.cp_journal.specs.Frames.{Frame}
use Rattle.cp_journal.specs.Holding.{IsAtRest}
use Rattle.cp_journal.specs.Journals.{JournalState}
use Rattle.cp_journal.specs.declared.frame.TheConstants.{CHECKPOINT}
use Rattle.cp_journal.specs.declared.limits.TheConstants.{FRAME_HEAD}

-- The frame of a checkpoint with this body.
abbrev pub checkpoint : List ℕ → Frame
checkpoint body = record { tag = CHECKPOINT; body = body }

-- The first bytes of the two files are the same.
abbrev pub IsSameUpTo : ℕ → List ℕ → List ℕ → Type 0
IsSameUpTo n old c = take n c ≡ take n old

-- From v to w nothing has changed up to the gate at this offset, that gate included: in no file that a crash leaves, and not in the content.
pub record ViewKeepsFront (at : ℕ) (v w : View) : Type 0 where
  pub crash : ViewKeeps (IsSameUpTo (at + 1) v.content) v w
  pub content : IsSameUpTo (at + 1) v.content w.content

-- The same of disks of which it may not be known what they hold.
abbrev pub KeepsFront : ℕ → KnownDisk → KnownDisk → Type 0
KeepsFront at d e = IfKnown d (λ v. ViewKeepsFront at v e.view)

-- The journal has begun the frame of a checkpoint with this body so far, and nothing is pending but after its closed gate.
pub record HasBegun (j : JournalState) (body : List ℕ) (v : View) : Type 0 where
  pub len : j.begun ≡ Some (length body)
  pub head : j.next + FRAME_HEAD ≤ length v.content
  pub bytes : take (length body) (drop (j.next + FRAME_HEAD) v.content) ≡ body
  pub at_rest : IsAtRest j.next v
