-- What a file with checkpoints stands for: no history where it is vacant, else the one that its frames tell, whose state the live
-- checkpoint has.
use Rattle.std.specs.Prelude.{ℕ, ◌+◌, ◌*◌, ◌≡◌, ◌≤◌, ◌⊎◌, true, false, List, [], ◌∷◌, ◌++◌, length, take, drop, fold, ⊤}
use Rattle.std.specs.List.{AllByRecursion}
use Rattle.std.specs.declared.option.Option.{Option}
use Rattle.std.specs.declared.option.Option.TheVariants.{None, Some}
use Rattle.cp_model.specs.History.{Entry, State}
use Rattle.cp_model.specs.Keyed.{from_entries}
use Rattle.cp_model.specs.Laws.{AreSources}
use Rattle.cp_model.specs.Past.{start_aged, tree_of}
use Rattle.cp_model.specs.Place.{target}
use Rattle.cp_model.specs.Tree.{Source, Tree}
use Rattle.cp_format.specs.Formats.{Reads}
use Rattle.cp_frame.specs.Items.{Item, a_checkpoint, AllStand, after_item}
use Rattle.cp_frame.specs.Rooms.{tree_format, whole_room}
use Rattle.cp_frame.specs.Stands.{HoldsFrom, IsTold, OpensFirst, header_of}
use Rattle.cp_frame.specs.Trees.{Written, rows_of}
use Rattle.cp_journal.specs.Frames.{Frame, gate_at, spelled_all, whole}
use Rattle.cp_journal.specs.Headers.{HasHeader}
use Rattle.cp_journal.specs.NewStores.{IsVacant}
use Rattle.cp_journal.specs.declared.header.Slot.{Slot}
use Rattle.cp_journal.specs.declared.limits.TheConstants.{FRAME_HEAD, HEADER_SIZE}
use Rattle.cp_page.specs.declared.page.TheConstants.{PAGE_SIZE}
use Rattle.cp_run.specs.Sets.{of_order}
use Rattle.cp_run.specs.declared.run.Run.{Run}
use Rattle.cp_check.specs.Directories.{Directory, EndsWith}
use Rattle.cp_check.specs.Rows.{HoldRows}
use Rattle.cp_journal.specs.Begun.{checkpoint}
use Rattle.cp_journal.specs.Slots.{live_slot}
use Rattle.cp_check.specs.declared.directory.TreeAt.{TreeAt}
use Rattle.cp_check.specs.declared.limits.TheConstants.{RUNS_MAX}

-- ---- what a slot names

-- what a checkpoint has: the body of its frame, its directory, T's tree and the sources
pub record Snapshot : Type 0 where
  pub body : List ℕ
  pub directory : Directory
  pub tree : Tree
  pub sources : List Source

-- so many bytes from an offset on lie after the header, and end here at most
abbrev pub LieWithin : ℕ → ℕ → ℕ → Type 0
LieWithin end at len = (HEADER_SIZE ≤ at) × (at + len ≤ end)

-- the tree lies after the header, and ends here at most
abbrev pub TreeLies : ℕ → TreeAt → Type 0
TreeLies end t = LieWithin end t.at t.len

-- the run lies after the header, and ends here at most
abbrev pub RunLies : ℕ → Run → Type 0
RunLies end r = LieWithin end r.at (r.pages * PAGE_SIZE)

-- where the file is said to have the tree of this source, it is spelled
pub record HasTree (c : List ℕ) (t : TreeAt) (s : Source) : Type 0 where
  pub written : Written
  pub reads : Reads (tree_format (whole_room (length t.name))) (take t.len (drop t.at c)) written []
  pub name : s.name ≡ t.name
  pub tree : s.tree ≡ from_entries (rows_of written)

-- each of the trees is that of the source in its place
abbrev pub HaveTrees : List ℕ → List TreeAt → List Source → Type 0
HaveTrees c [] [] = ⊤
HaveTrees c [] (s ∷ ss) = ⊥
HaveTrees c (t ∷ ts) [] = ⊥
HaveTrees c (t ∷ ts) (s ∷ ss) = HasTree c t s × HaveTrees c ts ss

-- T under its name, before the sources
abbrev pub with_target : Tree → List Source → List Source
with_target t ss = record { name = target; tree = t } ∷ ss

-- the offset at which the frame of a checkpoint ends that begins here
abbrev pub end_of : ℕ → List ℕ → ℕ
end_of at body = at + FRAME_HEAD + length body

-- the directory's numbers are no more than this offset
abbrev pub AreUpTo : ℕ → Directory → Type 0
AreUpTo at d = (d.head.tid ≤ at) × (d.head.transactions ≤ at) × (d.head.records ≤ at)

-- no order has more runs than may be
abbrev pub AreFew : List Run → Type 0
AreFew runs = (order : ℕ) → length (of_order order runs) ≤ RUNS_MAX

-- the slot names a checkpoint of the file which has this: at its offset there is a frame with this body, that ends with this
-- directory, whose trees and runs lie before the end of the frame
pub record Names (slot : Slot) (c : List ℕ) (snapshot : Snapshot) : Type 0 where
  pub offset : HEADER_SIZE ≤ slot.at
  pub number : (1 ≤ slot.seq) × (slot.seq ≤ slot.at)
  pub rest : List ℕ
  pub frame : gate_at (drop slot.at c) ≡ whole (checkpoint snapshot.body) rest
  pub directory : EndsWith snapshot.body snapshot.directory
  pub numbers : AreUpTo slot.at snapshot.directory
  pub trees_lie : AllByRecursion (TreeLies (end_of slot.at snapshot.body)) snapshot.directory.trees
  pub runs_lie : AllByRecursion (RunLies (end_of slot.at snapshot.body)) snapshot.directory.runs
  pub trees : HaveTrees c snapshot.directory.trees (with_target snapshot.tree snapshot.sources)
  pub sources : AreSources snapshot.sources
  pub few : AreFew snapshot.directory.runs

-- ---- opening

-- the state with which an opening goes on from a checkpoint: nothing has a past there, and no record is in memory
abbrev pub state_at : Snapshot → State
state_at snapshot = record {
  kind = snapshot.directory.head.kind;
  sources = snapshot.sources;
  tree = start_aged snapshot.tree;
  now = snapshot.directory.head.tid;
  commits = snapshot.directory.head.transactions;
  rows = [];
}

-- the file opens from this slot: from the state of its checkpoint on, each item from its frame on may follow those before it
pub record OpensAt (slot : Slot) (version : ℕ) (c : List ℕ) : Type 0 where
  pub snapshot : Snapshot
  pub names : Names slot c snapshot
  pub items : List Item
  pub holds : HoldsFrom slot.at version items c
  pub stand : AllStand false (Some (state_at snapshot)) items

-- it opens from its live slot, or from its first frame where none is open
abbrev pub OpensFrom : Option Slot → ℕ → List ℕ → Type 0
OpensFrom None version c = OpensFirst version c
OpensFrom (Some slot) version c = OpensAt slot version c

-- the file is one that a database opens: whether its records and the rows of its runs are right isn't asked
pub record Opens (c : List ℕ) : Type 0 where
  pub header : HasHeader c
  pub from : OpensFrom (live_slot (header_of c)) (header_of c).version c

-- ---- standing for a history

-- the directory has the kind and the numbers of the state
pub record IsNumbered (d : Directory) (s : State) : Type 0 where
  pub kind : d.head.kind ≡ s.kind
  pub tid : d.head.tid ≡ s.now
  pub transactions : d.head.transactions ≡ s.commits
  pub records : d.head.records ≡ length s.rows

-- what a checkpoint of the state has, with this body and this directory
abbrev pub snapshot_of : State → List ℕ → Directory → Snapshot
snapshot_of s body d = record { body = body; directory = d; tree = tree_of s.tree; sources = s.sources }

-- the slot names a frame among these, whose checkpoint has the state after the items before it, and the rows of all its records
pub record IsRight (slot : Slot) (frames : List Frame) (items : List Item) (c : List ℕ) : Type 0 where
  pub before : List Item
  pub body : List ℕ
  pub after : List Item
  pub are : items ≡ before ++ a_checkpoint body ∷ after
  pub place : slot.at ≡ HEADER_SIZE + length (spelled_all (take (length before) frames))
  pub state : State
  pub replayed : fold after_item None before ≡ Some state
  pub directory : Directory
  pub numbered : IsNumbered directory state
  pub names : Names slot c (snapshot_of state body directory)
  pub rows : HoldRows c directory.runs state

-- a live checkpoint, if there is one, is right
abbrev pub IsRightIf : Option Slot → List Frame → List Item → List ℕ → Type 0
IsRightIf None frames items c = ⊤
IsRightIf (Some slot) frames items c = IsRight slot frames items c

-- the file tells this history with the right records, and a live checkpoint is right
pub record IsStore (h : List Entry) (c : List ℕ) : Type 0 where
  pub told : IsTold true h c
  pub live : IsRightIf (live_slot (header_of c)) told.frames told.items c

-- the file stands for this history: a vacant file for the empty one, any other for the one that it tells with the right records
abbrev pub StandsFor : List Entry → List ℕ → Type 0
StandsFor h c = ((h ≡ []) × IsVacant c) ⊎ IsStore h c
