-- What the calls that write do.
use Rattle.std.specs.Prelude.{ℕ, ◌≡◌, ◌⊎◌, ◌+◌, ◌≤◌, ◌==◌, ◌++◌, true, false, List, [], ◌∷◌, length, is_some, if◌then◌else◌, Result, Ok, Err, ⊤}
use Rattle.std.specs.declared.option.Option.{Option}
use Rattle.std.specs.declared.option.Option.TheVariants.{None, Some}
use Rattle.cp_model.specs.Tree.{Tree, source}
use Rattle.cp_model.specs.Past.{tree_of}
use Rattle.cp_model.specs.History.{Entry, start, load, commit, State, CanCommit, after_commit, after_load, steps_of}
use Rattle.cp_model.specs.declared.kind.Kind.{Kind}
use Rattle.cp_model.specs.declared.limits.TheConstants.{SOURCES_MAX}
use Rattle.cp_model.specs.declared.op.Op.{Op}
use Rattle.cp_model.specs.declared.stamp.Stamp.{Stamp}
use Rattle.cp_disk.specs.Views.{View}
use Rattle.cp_journal.specs.NewStores.{IsVacant}
use Rattle.cp_journal.specs.declared.limits.TheConstants.{BODY_MAX, FRAME_HEAD}
use Rattle.cp_operation.specs.Passed.{records_of}
use Rattle.cp_engine.specs.Transactions as txn
use Rattle.cp_engine.specs.declared.txn.Step.{Step}
use Rattle.cp_frame.specs.Stands.{StandsFor, StandsForEither}
use Rattle.cp_frame.specs.Sizes.{has_room, load_size, stamped_size}
use Rattle.cp_db.specs.Committed.{HasRows, LeadsTo}
use Rattle.cp_db.specs.Databases.{HoldsState, end_in}
use Rattle.cp_db.specs.declared.database.Db.{Db}
use Rattle.cp_db.specs.declared.database.Tids.{Tids}
use Rattle.cp_db.specs.declared.fault.InitFault.{InitFault}
use Rattle.cp_db.specs.declared.fault.InitFault.TheVariants as init
use Rattle.cp_db.specs.declared.fault.LoadFault.{LoadFault}
use Rattle.cp_db.specs.declared.fault.LoadFault.TheVariants as load_fault
use Rattle.cp_db.specs.declared.fault.WriteFault.{WriteFault}
use Rattle.cp_db.specs.declared.fault.WriteFault.TheVariants as write
use Rattle.cp_db.specs.declared.fault.CommitFault.{CommitFault}
use Rattle.cp_db.specs.declared.fault.CommitFault.TheVariants as fault

-- ---- causes

-- the disk failed
abbrev pub IsInitDisk : InitFault → Type 0
IsInitDisk e = e ≡ init.Disk

abbrev pub IsWriteDisk : WriteFault → Type 0
IsWriteDisk e = e ≡ write.Disk

abbrev pub IsLoadDisk : LoadFault → Type 0
IsLoadDisk e = e ≡ load_fault.Disk

abbrev pub IsCommitDisk : CommitFault → Type 0
IsCommitDisk e = e ≡ fault.Disk

-- ---- a new store

-- the file that a crash leaves of a new store: one that it could leave before, a vacant one, or the store with its start alone
abbrev pub IsOldOrVacantOrStart : View → Kind → Tree → List ℕ → Type 0
IsOldOrVacantOrStart v k t c = v.images c ⊎ (IsVacant c ⊎ StandsFor (start k t ∷ []) c)

-- the file is vacant, or a new store with its start alone
abbrev pub IsVacantOrStart : Kind → Tree → List ℕ → Type 0
IsVacantOrStart k t c = IsVacant c ⊎ StandsFor (start k t ∷ []) c

-- ---- one entry more

-- The database held the one state and holds the other, which comes of it by the entry: it has the rows of this where it had the rows of that, and
-- a history that led to that leads to this with the entry. Its frames end so many bytes later.
pub record HasAdded {R S : Type 0} (view : R → Tree) (source_view : S → Tree) (old : Db R S) (s : State) (e : Entry) (z : State) (size : ℕ) (new : Db R S) : Type 0 where
  pub holds : HoldsState view source_view new z
  pub rows : HasRows old.committed s → HasRows new.committed z
  pub leads : (h : List Entry) → LeadsTo h s → LeadsTo (h ++ e ∷ []) z
  pub end : end_in new ≡ end_in old + FRAME_HEAD + size

-- why no source of this name is added, whatever its tree: one is there, or else as many are there as may be
abbrev pub in_the_way : State → List ℕ → Option LoadFault
in_the_way s n =
    if is_some (source s.sources n) then Some load_fault.SourceThere
    else if length s.sources == SOURCES_MAX then Some load_fault.TooManySources
    else None

-- The source is added, unless something is in its way or there is no room for it. What is in its way is told before anything else.
abbrev pub HasLoaded : {R S : Type 0} → (R → Tree) → (S → Tree) → Db R S → State → List ℕ → Tree → Db R S → Result ⊤ LoadFault → Type 0
HasLoaded view source_view old s n t new (Ok x) =
    (in_the_way s n ≡ None) × (has_room (end_in old) (load_size n t) ≡ true)
    × HasAdded view source_view old s (load n t) (after_load s n t) (load_size n t) new
HasLoaded view source_view old s n t new (Err load_fault.SourceThere) = (in_the_way s n ≡ Some load_fault.SourceThere) × (new ≡ old)
HasLoaded view source_view old s n t new (Err load_fault.TooManySources) = (in_the_way s n ≡ Some load_fault.TooManySources) × (new ≡ old)
HasLoaded view source_view old s n t new (Err load_fault.TooLarge) =
    (in_the_way s n ≡ None) × (has_room (end_in old) (load_size n t) ≡ false) × (new ≡ old)
HasLoaded view source_view old s n t new (Err load_fault.Disk) = in_the_way s n ≡ None
HasLoaded view source_view old s n t new (Err load_fault.Memory) = in_the_way s n ≡ None

-- the bytes of a commit's entry
abbrev pub commit_size : State → Stamp → List Op → ℕ
commit_size s stamp ops = stamped_size stamp ops (records_of s.kind s.sources (tree_of s.tree) (s.now + 1) ops)

-- the Tids of a commit after this state
abbrev pub GaveTids : State → List Op → Tids → Type 0
GaveTids s ops t = (t.low ≡ s.now + 1) × (t.high ≡ s.now + length (steps_of s.kind ops))

-- the step is that of these operations, which may be committed on the state that the database holds
abbrev pub HasMade : {R S : Type 0} → (R → Tree) → (S → Tree) → Db R S → List Op → Step R → Type 0
HasMade view source_view d ops x =
    (s : State) → HoldsState view source_view d s
    → CanCommit s ops × txn.IsStep view s.kind s.sources (tree_of s.tree) (s.now + 1) ops BODY_MAX x

-- the step is committed, unless there is no room for it
abbrev pub HasStepped : {R S : Type 0} → (R → Tree) → (S → Tree) → Db R S → State → Stamp → List Op → Db R S → Result Tids WriteFault → Type 0
HasStepped view source_view old s stamp ops new (Ok t) =
    (has_room (end_in old) (commit_size s stamp ops) ≡ true) × GaveTids s ops t
    × HasAdded view source_view old s (commit stamp ops) (after_commit s ops) (commit_size s stamp ops) new
HasStepped view source_view old s stamp ops new (Err write.TooLarge) = (has_room (end_in old) (commit_size s stamp ops) ≡ false) × (new ≡ old)
HasStepped view source_view old s stamp ops new (Err write.Disk) = ⊤
HasStepped view source_view old s stamp ops new (Err write.Memory) = ⊤

-- operations are committed, one at least, unless there is no room for them; of a transaction that has failed the number and the cause are told
abbrev pub HasCommitted : {R S : Type 0} → (R → Tree) → (S → Tree) → Db R S → State → Stamp → txn.Progress → Db R S → Result Tids CommitFault → Type 0
HasCommitted view source_view old s stamp (txn.going ops) new (Ok t) =
    (1 ≤ length ops) × (has_room (end_in old) (commit_size s stamp ops) ≡ true) × GaveTids s ops t
    × HasAdded view source_view old s (commit stamp ops) (after_commit s ops) (commit_size s stamp ops) new
HasCommitted view source_view old s stamp (txn.going ops) new (Err fault.Empty) = (ops ≡ []) × (new ≡ old)
HasCommitted view source_view old s stamp (txn.going ops) new (Err (fault.Failed n c)) = ⊥
HasCommitted view source_view old s stamp (txn.going ops) new (Err fault.TooLarge) =
    (1 ≤ length ops) × (has_room (end_in old) (commit_size s stamp ops) ≡ false) × (new ≡ old)
HasCommitted view source_view old s stamp (txn.going ops) new (Err fault.Disk) = ⊤
HasCommitted view source_view old s stamp (txn.going ops) new (Err fault.Memory) = ⊤
HasCommitted view source_view old s stamp (txn.failed j b) new (Ok t) = ⊥
HasCommitted view source_view old s stamp (txn.failed j b) new (Err fault.Empty) = ⊥
HasCommitted view source_view old s stamp (txn.failed j b) new (Err (fault.Failed n c)) = (n ≡ j) × (c ≡ b) × (new ≡ old)
HasCommitted view source_view old s stamp (txn.failed j b) new (Err fault.TooLarge) = ⊥
HasCommitted view source_view old s stamp (txn.failed j b) new (Err fault.Disk) = ⊥
HasCommitted view source_view old s stamp (txn.failed j b) new (Err fault.Memory) = ⊥

-- of a commit a crash leaves the file for the history before, or for that with the operations that the transaction holds
abbrev pub IsBeforeOrCommitted : List Entry → Stamp → txn.Progress → List ℕ → Type 0
IsBeforeOrCommitted h stamp (txn.going ops) c = StandsForEither h (h ++ commit stamp ops ∷ []) c
IsBeforeOrCommitted h stamp (txn.failed n b) c = StandsFor h c
