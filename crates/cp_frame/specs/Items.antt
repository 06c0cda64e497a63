-- What a frame of a store's file holds: an entry of a history with the records of its steps, or a checkpoint.
use Rattle.std.specs.Prelude.{ℕ, ◌≡◌, ◌≤◌, ◌<◌, ◌++◌, Bool, true, IsTrue, List, [], ◌∷◌, map, is_some, ⊤}
use Rattle.std.specs.List.{AllByRecursion, flat_map}
use Rattle.std.specs.declared.option.Option.{Option}
use Rattle.std.specs.declared.option.Option.TheVariants.{None, Some}
use Rattle.cp_model.specs.Keyed.{from_entries}
use Rattle.cp_model.specs.History.{Entry, State, CanFollow, then_entry, after_commit}
use Rattle.cp_model.specs.History as history
use Rattle.cp_model.specs.declared.op.Op.{Op}
use Rattle.cp_model.specs.declared.record.Record.{Record}
use Rattle.cp_model.specs.declared.stamp.Stamp.{Stamp}
use Rattle.cp_journal.specs.Frames.{Frame}
use Rattle.cp_journal.specs.declared.frame.TheConstants.{ENTRY, CHECKPOINT}
use Rattle.cp_format.specs.Formats.{Reads}
use Rattle.cp_frame.specs.Trees.{rows_of}
use Rattle.cp_frame.specs.Operations.{op_of}
use Rattle.cp_frame.specs.Entries.{Batch, WrittenEntry, start, load, commit, stamped, entry_format}

-- what a frame holds
pub data Item : Type 0 where
  an_entry : WrittenEntry → Item
  a_checkpoint : List ℕ → Item

-- a stamped commit stands in a file of version 2 alone
abbrev pub IsOfVersion : ℕ → WrittenEntry → Type 0
IsOfVersion version (start k t) = ⊤
IsOfVersion version (load n t) = ⊤
IsOfVersion version (commit b) = ⊤
IsOfVersion version (stamped s b) = version ≡ 2

-- the frame of an entry whose body is the entry's one spelling
pub record IsEntryFrame (version : ℕ) (f : Frame) (w : WrittenEntry) : Type 0 where
  pub tag : f.tag ≡ ENTRY
  pub body : Reads entry_format f.body w []
  pub allowed : IsOfVersion version w

-- in a file of this version the frame holds this
abbrev pub IsHeld : ℕ → Frame → Item → Type 0
IsHeld version f (an_entry w) = IsEntryFrame version f w
IsHeld version f (a_checkpoint body) = f ≡ record { tag = CHECKPOINT; body = body }

-- each frame holds the item in its place
abbrev pub AreHeld : ℕ → List Frame → List Item → Type 0
AreHeld version [] [] = ⊤
AreHeld version [] (i ∷ is) = ⊥
AreHeld version (f ∷ fs) [] = ⊥
AreHeld version (f ∷ fs) (i ∷ is) = IsHeld version f i × AreHeld version fs is

-- ---- what entries mean

-- the stamp of a commit that was written without one
abbrev pub no_stamp : Stamp
no_stamp = record { curator = []; moment = 0 }

-- the operations of a batch
abbrev pub ops_in : Batch → List Op
ops_in b = map op_of b.ops

-- the entry of a history that is written so
abbrev pub entry_meant : WrittenEntry → Entry
entry_meant (start k t) = history.start k (from_entries (rows_of t))
entry_meant (load n t) = history.load n (from_entries (rows_of t))
entry_meant (commit b) = history.commit no_stamp (ops_in b)
entry_meant (stamped s b) = history.commit s (ops_in b)

-- the records that are written with it
abbrev pub records_with : WrittenEntry → List Record
records_with (start k t) = []
records_with (load n t) = []
records_with (commit b) = b.records
records_with (stamped s b) = b.records

-- the entries that an item adds to a history
abbrev pub entries_in : Item → List Entry
entries_in (an_entry w) = entry_meant w ∷ []
entries_in (a_checkpoint body) = []

-- the records that it adds
abbrev pub records_in : Item → List Record
records_in (an_entry w) = records_with w
records_in (a_checkpoint body) = []

-- the state after it
abbrev pub after_item : Option State → Item → Option State
after_item o (an_entry w) = then_entry o (entry_meant w)
after_item o (a_checkpoint body) = o

-- ---- what may follow a state

-- each record of a commit has one of its Tids; where they are to be right, they are the rows of its steps
pub record HasRecords (right : Bool) (s z : State) (rs : List Record) : Type 0 where
  pub tids : AllByRecursion (λ r. (s.now < r.tid) × (r.tid ≤ z.now)) rs
  pub all : IsTrue right → z.rows ≡ s.rows ++ rs

-- an entry has the records of its steps; only a commit has steps
abbrev pub HasItsRecords : Bool → State → WrittenEntry → Type 0
HasItsRecords right s (start k t) = ⊤
HasItsRecords right s (load n t) = ⊤
HasItsRecords right s (commit b) = HasRecords right s (after_commit s (ops_in b)) b.records
HasItsRecords right s (stamped r b) = HasRecords right s (after_commit s (ops_in b)) b.records

-- the same after what a history leads to
abbrev pub HasItsRecordsAfter : Bool → Option State → WrittenEntry → Type 0
HasItsRecordsAfter right None w = ⊤
HasItsRecordsAfter right (Some s) w = HasItsRecords right s w

-- an item may follow: an entry that may, with its records; a checkpoint anywhere but first
abbrev pub CanStand : Bool → Option State → Item → Type 0
CanStand right o (an_entry w) = CanFollow o (entry_meant w) × HasItsRecordsAfter right o w
CanStand right o (a_checkpoint body) = is_some o ≡ true

-- each item may follow the state before it
abbrev pub AllStand : Bool → Option State → List Item → Type 0
AllStand right o [] = ⊤
AllStand right o (i ∷ is) = CanStand right o i × AllStand right (after_item o i) is

-- these frames, the first ones of a file of this version, tell this history
pub record Tell (right : Bool) (version : ℕ) (fs : List Frame) (h : List Entry) : Type 0 where
  pub items : List Item
  pub held : AreHeld version fs items
  pub stand : AllStand right None items
  pub are : h ≡ flat_map entries_in items
