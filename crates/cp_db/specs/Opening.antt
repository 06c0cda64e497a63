-- What a file gives that is opened.
use Rattle.std.specs.Prelude.{ℕ, ◌≡◌, Bool, false, List, ◌∷◌, [], fold, Result, Ok, Err, ⊤}
use Rattle.std.specs.declared.option.Option.{Option}
use Rattle.std.specs.declared.option.Option.TheVariants.{None, Some}
use Rattle.cp_model.specs.Tree.{Tree}
use Rattle.cp_model.specs.History.{State, start_state}
use Rattle.cp_model.specs.History.{Entry as History}
use Rattle.cp_model.specs.declared.kind.Kind.{Kind}
use Rattle.cp_format.specs.Formats.{Reads}
use Rattle.cp_frame.specs.Entries.{WrittenEntry, IsEntry, entry_format}
use Rattle.cp_frame.specs.declared.entry.Entry.{Entry}
use Rattle.cp_disk.specs.Views.{View}
use Rattle.cp_journal.specs.Frames.{Frame}
use Rattle.cp_frame.specs.Items.{Item, IsHeld, CanStand, after_item}
use Rattle.cp_frame.specs.Stands.{IsTold, Opens}
use Rattle.cp_frame.specs.Stops.{IsNot, IsRefused}
use Rattle.cp_db.specs.Databases.{HoldsState, IsKept, Stands}
use Rattle.cp_db.specs.declared.database.Db.{Db}
use Rattle.cp_db.specs.declared.start.Start.{Start}
use Rattle.cp_db.specs.declared.fault.OpenFault.{OpenFault}
use Rattle.cp_db.specs.declared.fault.OpenFault.TheVariants.{NoStore, Disk, Memory}

-- it holds the state to which what the file opens with leads; and it stands for the history that the file tells, and the disk holds that, with the right records where the file has them
pub record HasOpened {R S : Type 0} (view : R → Tree) (source_view : S → Tree) (d : Db R S) (c : List ℕ) (v : View) : Type 0 where
  pub opens : Opens c
  pub holds : (s : State) → fold after_item None opens.first.items ≡ Some s → HoldsState view source_view d s
  pub stands : (right : Bool) (h : List History) → IsTold right h c → Stands view source_view right d h × IsKept right d h v

-- a file that opens gives its database; of any other the offset is told at which it stops
abbrev pub OpensAs : {R S : Type 0} → (R → Tree) → (S → Tree) → List ℕ → View → Result (Db R S) OpenFault → Type 0
OpensAs view source_view c v (Ok d) = HasOpened view source_view d c v
OpensAs view source_view c v (Err (NoStore at)) = IsNot Opens c at
OpensAs view source_view c v (Err Disk) = ⊤
OpensAs view source_view c v (Err Memory) = ⊤

-- ---- frame by frame

-- the frame's body spells the entry, or none
abbrev pub SpellsAs : Frame → Result Entry OpenFault → Type 0
SpellsAs f (Ok e) = (w : WrittenEntry) × IsEntry e w × Reads entry_format f.body w []
SpellsAs f (Err (NoStore at)) = (w : WrittenEntry) → Reads entry_format f.body w [] → ⊥
SpellsAs f (Err Disk) = ⊥
SpellsAs f (Err Memory) = ⊤

-- the item may be the first of a history, which then starts in this kind from this tree
pub record IsStartOf (i : Item) (k : Kind) (t : Tree) : Type 0 where
  pub can : CanStand false None i
  pub leads : after_item None i ≡ Some (start_state k t)

-- the first frame holds a start of this kind with this tree; or, from this offset on, there is no frame or the first holds nothing that may be first
abbrev pub StartsAs : {R : Type 0} → (R → Tree) → ℕ → ℕ → List Frame → Result (Start R) OpenFault → Type 0
StartsAs view from version fs (Ok x) = (f : Frame) × (rest : List Frame) × (i : Item) × (fs ≡ f ∷ rest) × IsHeld version f i × IsStartOf i x.kind (view x.tree)
StartsAs view from version fs (Err (NoStore at)) = (at ≡ from) × ((f : Frame) (rest : List Frame) → fs ≡ f ∷ rest → IsRefused version None f)
StartsAs view from version fs (Err Disk) = ⊤
StartsAs view from version fs (Err Memory) = ⊤

-- the frame at this offset holds nothing that may follow the state
abbrev pub RefusesAs : ℕ → Frame → Option State → ℕ → OpenFault → Type 0
RefusesAs version f o place (NoStore at) = IsRefused version o f × (at ≡ place)
RefusesAs version f o place Disk = ⊤
RefusesAs version f o place Memory = ⊤

-- the disk failed
abbrev pub IsOpenDisk : OpenFault → Type 0
IsOpenDisk fault = fault ≡ Disk
