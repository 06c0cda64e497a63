-- The laws of files with checkpoints.
use Rattle.std.specs.Prelude.{ℕ, ◌+◌, ◌≡◌, ◌≤◌, true, List, [], ◌∷◌, ◌++◌, length, fold}
use Rattle.std.specs.List.{AllByRecursion, flat_map}
use Rattle.std.specs.declared.option.Option.TheVariants.{Some}
use Rattle.cp_model.specs.History.{Entry, State, replay}
use Rattle.cp_model.specs.Laws.{AreSources}
use Rattle.cp_model.specs.Past.{tree_of}
use Rattle.cp_model.specs.declared.record.Record.{Record}
use Rattle.cp_journal.specs.Frames.{Frame, spelled_all}
use Rattle.cp_journal.specs.Holding.{Continues}
use Rattle.cp_journal.specs.Upgrading.{HasOtherVersion}
use Rattle.cp_journal.specs.declared.header.Slot.{Slot}
use Rattle.cp_journal.specs.declared.limits.TheConstants.{HEADER_SIZE}
use Rattle.cp_frame.specs.Items.{Item, a_checkpoint, AllStand, AreHeld, after_item, entries_in}
use Rattle.cp_frame.specs.Stands as earlier
use Rattle.cp_frame.specs.Stands.{header_of}
use Rattle.cp_journal.specs.Begun.{checkpoint}
use Rattle.cp_journal.specs.Slots.{HasLive, HasOtherSlot, IsSlotPlace, live_slot}
use Rattle.cp_check.specs.Directories.{Directory, EndsWith}
use Rattle.cp_check.specs.Rows.{HoldRows}
use Rattle.cp_check.specs.Stands.{AreFew, AreUpTo, HaveTrees, IsNumbered, IsRight, IsStore, Opens, OpensAt, RunLies, TreeLies, end_of, state_at, with_target}

-- two states differ in their pasts and in the records of earlier steps alone
pub record HasSameOutcome (s z : State) : Type 0 where
  pub kind : s.kind ≡ z.kind
  pub sources : s.sources ≡ z.sources
  pub tree : tree_of s.tree ≡ tree_of z.tree
  pub now : s.now ≡ z.now
  pub commits : s.commits ≡ z.commits
  pub before_s : List Record
  pub before_z : List Record
  pub more : List Record
  pub rows_s : s.rows ≡ before_s ++ more
  pub rows_z : z.rows ≡ before_z ++ more

-- a file without an open slot that tells a history with the right records stands for it
abbrev pub OlderStoresStand : Type 0
OlderStoresStand = (h : List Entry) (c : List ℕ) → earlier.IsStore h c → IsStore h c

-- a file that stands for a history opens
abbrev pub StoresOpen : Type 0
StoresOpen = (h : List Entry) (c : List ℕ) → IsStore h c → Opens c

-- a file stands for one history at most
abbrev pub FilesTellOneHistory : Type 0
FilesTellOneHistory = (h i : List Entry) (c : List ℕ) → IsStore h c → IsStore i c → h ≡ i

-- ---- opening

-- opening from the checkpoint of this slot, with the frames after it, leads where the replay of the history does
pub record OpensAsReplayed (h : List Entry) (slot : Slot) (c : List ℕ) : Type 0 where
  pub opens : OpensAt slot (header_of c).version c
  pub opened : State
  pub replayed : State
  pub from_checkpoint : fold after_item (Some (state_at opens.snapshot)) opens.items ≡ Some opened
  pub from_start : replay h ≡ Some replayed
  pub same : HasSameOutcome replayed opened

-- a file that stands for a history opens so from its live slot
abbrev pub OpeningIsReplay : Type 0
OpeningIsReplay =
    (h : List Entry) (c : List ℕ) (slot : Slot) → IsStore h c → live_slot (header_of c) ≡ Some slot → OpensAsReplayed h slot c

-- so does each opening from it
abbrev pub EachOpeningIsReplay : Type 0
EachOpeningIsReplay =
    (h : List Entry) (c : List ℕ) (slot : Slot) → IsStore h c → live_slot (header_of c) ≡ Some slot
    → (o : OpensAt slot (header_of c).version c) (s z : State)
    → replay h ≡ Some s → fold after_item (Some (state_at o.snapshot)) o.items ≡ Some z → HasSameOutcome s z

-- ---- what changes

-- the file's frames end at this offset
abbrev pub EndsAt : (h : List Entry) (c : List ℕ) → IsStore h c → ℕ → Type 0
EndsAt h c s at = at ≡ HEADER_SIZE + length (spelled_all s.told.frames)

-- a file that is the same up to the end of its frames, and goes on with frames that hold items which may follow, stands for the
-- history with their entries
abbrev pub FramesAddTheirEntries : Type 0
FramesAddTheirEntries =
    (h : List Entry) (old new : List ℕ) (s : IsStore h old) (at : ℕ) → EndsAt h old s at
    → (fs : List Frame) (items : List Item) → AreHeld (header_of old).version fs items → AllStand true (replay h) items
    → Continues at old fs new → IsStore (h ++ flat_map entries_in items) new

-- another slot, while the live one stays, changes nothing
abbrev pub SpareSlotsSayNothing : Type 0
SpareSlotsSayNothing =
    (h : List Entry) (old new : List ℕ) (at : ℕ) → IsSlotPlace at → HasOtherSlot at old new
    → HasLive (live_slot (header_of old)) new → IsStore h old → IsStore h new

-- nor does a slot that names a right checkpoint
abbrev pub RightSlotsAddNothing : Type 0
RightSlotsAddNothing =
    (h : List Entry) (old new : List ℕ) (at : ℕ) (slot : Slot) → IsSlotPlace at → HasOtherSlot at old new
    → HasLive (Some slot) new → (s : IsStore h old) → IsRight slot s.told.frames s.told.items old → IsStore h new

-- nor does the gate of the version, when it is opened
abbrev pub VersionsSayNothing : Type 0
VersionsSayNothing =
    (h : List Entry) (old new : List ℕ) → HasOtherVersion old new → (header_of old).version ≡ 1 → IsStore h old → IsStore h new

-- ---- a new checkpoint

-- in this file, in which a frame with this body begins at the offset, the directory has the numbers, the trees and the rows of the
-- state, and may stand at the end of the body
pub record HasStateOf (state : State) (at : ℕ) (body : List ℕ) (d : Directory) (c : List ℕ) : Type 0 where
  pub numbered : IsNumbered d state
  pub ends : EndsWith body d
  pub numbers : AreUpTo at d
  pub trees_lie : AllByRecursion (TreeLies (end_of at body)) d.trees
  pub runs_lie : AllByRecursion (RunLies (end_of at body)) d.runs
  pub trees : HaveTrees c d.trees (with_target (tree_of state.tree) state.sources)
  pub sources : AreSources state.sources
  pub few : AreFew d.runs
  pub rows : HoldRows c d.runs state

-- a checkpoint that is written after the last frame is right where its directory has the state of the history
abbrev pub FreshCheckpointsAreRight : Type 0
FreshCheckpointsAreRight =
    (h : List Entry) (old new : List ℕ) (s : IsStore h old) (slot : Slot) → EndsAt h old s slot.at
    → (1 ≤ slot.seq) × (slot.seq ≤ slot.at)
    → (body : List ℕ) → Continues slot.at old (checkpoint body ∷ []) new
    → (state : State) (d : Directory) → replay h ≡ Some state → HasStateOf state slot.at body d new
    → IsRight slot (s.told.frames ++ checkpoint body ∷ []) (s.told.items ++ a_checkpoint body ∷ []) new
