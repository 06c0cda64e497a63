-- What a walk over the history in a file keeps and finds, frame by frame.
use Rattle.std.specs.Prelude.{ℕ, ◌≡◌, ◌≤◌, ◌+◌, ◌++◌, ◌⊎◌, Bool, true, false, List, ◌∷◌, [], length, take, fold, Result, Ok, Err, ⊤}
use Rattle.std.specs.List.{flat_map}
use Rattle.std.specs.declared.option.Option.{Option}
use Rattle.std.specs.declared.option.Option.TheVariants.{Some, None}
use Rattle.cp_model.specs.Tree.{Tree}
use Rattle.cp_model.specs.History.{State, replay}
use Rattle.cp_model.specs.History.{Entry as History}
use Rattle.cp_model.specs.declared.kind.Kind.{Kind}
use Rattle.cp_model.specs.declared.record.Record.{Record}
use Rattle.cp_frame.specs.Entries.{WrittenEntry}
use Rattle.cp_journal.specs.Frames.{Frame, spelled_all}
use Rattle.cp_journal.specs.declared.limits.TheConstants.{HEADER_SIZE}
use Rattle.cp_store.specs.Stores.{KindRows}
use Rattle.cp_frame.specs.Items.{Item, an_entry, AreHeld, IsHeld, CanStand, after_item, records_in}
use Rattle.cp_frame.specs.Stands.{IsTold, Opens, OpensAndReplays}
use Rattle.cp_frame.specs.Stops.{IsNot, StopsAtFrame}
use Rattle.cp_db.specs.Committed.{HasTaken}
use Rattle.cp_db.specs.Opening.{RefusesAs}
use Rattle.cp_db.specs.Work.{Beginning}
use Rattle.cp_db.specs.declared.committed.Committed.{Committed}
use Rattle.cp_db.specs.declared.walk.HistoryWalk.{HistoryWalk}
use Rattle.cp_db.specs.declared.fault.OpenFault.{OpenFault}
use Rattle.cp_db.specs.declared.fault.OpenFault.TheVariants.{NoStore, Disk, Memory}

-- ---- frame by frame

-- what an opening keeps with these records, where the walk keeps the rest of it
abbrev pub committed_of : {R S W : Type 0} → HistoryWalk R S W → List Record → Committed R S
committed_of w rs =
    record { tree = w.tree; sources = w.sources; store = record { kind = w.kind; rows = record { list = rs; upto = w.last } }; commits = w.commits }

-- the terms of a walk: what its tree and its sources stand for, where its work may go on, and what of its work has been done
pub record WalkTerms (R S W : Type 0) : Type 1 where
  pub view : R → Tree
  pub source_view : S → Tree
  pub Fits : W → Kind → ℕ → Tree → Type 0
  pub Done : W → Option State → (ℕ → ℕ) → List Item → Type 0

abbrev pub walk_terms : {R S W : Type 0} → (R → Tree) → (S → Tree) → (W → Kind → ℕ → Tree → Type 0) → (W → Option State → (ℕ → ℕ) → List Item → Type 0) → WalkTerms R S W
walk_terms view source_view Fits Done = record { view = view; source_view = source_view; Fits = Fits; Done = Done }

-- an opening that has taken these items, from the first state on, has what the walk keeps
pub record HasReached {R S W : Type 0} (view : R → Tree) (source_view : S → Tree) (Fits : W → Kind → ℕ → Tree → Type 0) (first : Option State) (w : HistoryWalk R S W) (items : List Item) : Type 0 where
  pub records : List Record
  pub taken : HasTaken view source_view first (committed_of w records) items
  pub fits : Fits w.work w.kind w.last (view w.tree)

-- the walk has reached the end of these items, and done its work on them; this is the offset of each
pub record HasPassed {R S W : Type 0} (terms : WalkTerms R S W) (begun : Beginning) (w : HistoryWalk R S W) (items : List Item) : Type 0 where
  pub reached : HasReached terms.view terms.source_view terms.Fits begun.first w items
  pub done : terms.Done w.work begun.first begun.place items

-- the entry may follow these items and the walk has reached its end, or it may not
abbrev pub CanReach : {R S W : Type 0} → (R → Tree) → (S → Tree) → (W → Kind → ℕ → Tree → Type 0) → Option State → List Item → WrittenEntry → HistoryWalk R S W → Bool → Type 0
CanReach view source_view Fits first items w new true = HasReached view source_view Fits first new (items ++ an_entry w ∷ [])
CanReach view source_view Fits first items w new false = CanStand false (fold after_item first items) (an_entry w) → ⊥

-- the walk has passed what the frame holds after these items, or that may not follow them
abbrev pub PassesFrameAs : {R S W : Type 0} → WalkTerms R S W → Beginning → ℕ → Frame → List Item → HistoryWalk R S W → Result ⊤ OpenFault → Type 0
PassesFrameAs terms begun version f items new (Ok x) = (i : Item) × IsHeld version f i × HasPassed terms begun new (items ++ i ∷ [])
PassesFrameAs terms begun version f items new (Err e) = RefusesAs version f (fold after_item begun.first items) (begun.place (length items)) e

-- the offset of the frame of this number, of frames from an offset on
abbrev pub frame_place : ℕ → List Frame → ℕ → ℕ
frame_place from fs n = from + length (spelled_all (take n fs))

-- frames from an offset on, of which the first comes after this state or is the first of all
abbrev pub begun_at : Option State → ℕ → List Frame → Beginning
begun_at first from fs = record { first = first; place = frame_place from fs }

-- from the first state on the walk has passed what the first so many frames hold
pub record HasCome {R S W : Type 0} (terms : WalkTerms R S W) (first : Option State) (version from : ℕ) (fs : List Frame) (count : ℕ) (w : HistoryWalk R S W) : Type 0 where
  pub items : List Item
  pub counted : length items ≡ count
  pub held : AreHeld version (take count fs) items
  pub passed : HasPassed terms (begun_at first from fs) w items

-- it has passed what all frames hold; or a frame stops it
abbrev pub GoesOnAs : {R S W : Type 0} → WalkTerms R S W → Option State → ℕ → ℕ → List Frame → HistoryWalk R S W → Result ⊤ OpenFault → Type 0
GoesOnAs terms first version from fs new (Ok x) = HasCome terms first version from fs (length fs) new
GoesOnAs terms first version from fs new (Err (NoStore at)) = StopsAtFrame from version first fs at
GoesOnAs terms first version from fs new (Err Disk) = ⊤
GoesOnAs terms first version from fs new (Err Memory) = ⊤

-- from the beginning it has passed what all frames hold, of which there is one; or there is none, or a frame stops it
abbrev pub TellsPassedAs : {R S W : Type 0} → WalkTerms R S W → ℕ → ℕ → List Frame → Result (HistoryWalk R S W) OpenFault → Type 0
TellsPassedAs terms version from fs (Ok w) = (1 ≤ length fs) × HasCome terms None version from fs (length fs) w
TellsPassedAs terms version from fs (Err (NoStore at)) = ((fs ≡ []) × (at ≡ from)) ⊎ StopsAtFrame from version None fs at
TellsPassedAs terms version from fs (Err Disk) = ⊤
TellsPassedAs terms version from fs (Err Memory) = ⊤

-- ---- an opening

-- the rows of an opening go on in this kind, after this Tid
abbrev pub RowsFit : KindRows → Kind → ℕ → Tree → Type 0
RowsFit rows kind last tree = (rows.kind ≡ kind) × (rows.rows.upto ≡ last)

-- and are the records of the items
abbrev pub RowsDone : KindRows → Option State → (ℕ → ℕ) → List Item → Type 0
RowsDone rows first place items = rows.rows.list ≡ flat_map records_in items

-- ---- a file

-- the file opens and tells a history, and this work was done on its items
pub record HasFound {W : Type 0} (Done : W → Option State → (ℕ → ℕ) → List Item → Type 0) (c : List ℕ) (found : W) : Type 0 where
  pub opens : Opens c
  pub history : List History
  pub told : IsTold false history c
  pub state : State
  pub replayed : replay history ≡ Some state
  pub done : Done found None (frame_place HEADER_SIZE told.frames) told.items

-- the work on a file; one that doesn't open, or of which the walk over all frames tells no history, is refused, with the offset at which it stops
abbrev pub FindsAs : {W : Type 0} → (W → Option State → (ℕ → ℕ) → List Item → Type 0) → List ℕ → Result W OpenFault → Type 0
FindsAs Done c (Ok found) = HasFound Done c found
FindsAs Done c (Err (NoStore at)) = IsNot OpensAndReplays c at
FindsAs Done c (Err Disk) = ⊤
FindsAs Done c (Err Memory) = ⊤
