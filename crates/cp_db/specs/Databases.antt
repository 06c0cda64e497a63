-- What a database stands for, and what the disk holds of it.
use Rattle.std.specs.Prelude.{ℕ, ◌≡◌, ◌≤◌, ◌+◌, ◌↔◌, Bool, false, IsTrue, List, length}
use Rattle.std.specs.declared.option.Option.TheVariants.{None}
use Rattle.cp_model.specs.Tree.{Tree}
use Rattle.cp_model.specs.Past.{tree_of}
use Rattle.cp_model.specs.History.{Entry, State}
use Rattle.cp_disk.specs.Views.{View}
use Rattle.cp_journal.specs.Frames.{Frame}
use Rattle.cp_journal.specs.Holding.{IsAtRest}
use Rattle.cp_journal.specs.Journals.{Describes}
use Rattle.cp_journal.specs.declared.limits.TheConstants.{HEADER_SIZE}
use Rattle.cp_frame.specs.Items.{Tell}
use Rattle.cp_frame.specs.Stands.{IsHead}
use Rattle.cp_engine.specs.Transactions as txn
use Rattle.cp_engine.specs.declared.txn.Txn.{Txn}
use Rattle.cp_db.specs.Committed.{HasRows, KeepsState, LeadsTo}
use Rattle.cp_db.specs.declared.database.Db.{Db}

-- the database holds the state, and its journal may be written
pub record HoldsState {R S : Type 0} (view : R → Tree) (source_view : S → Tree) (d : Db R S) (s : State) : Type 0 where
  pub committed : KeepsState view source_view d.committed s
  pub whole : d.journal.broken ≡ None
  pub usable : d.journal.spent ≡ false
  pub idle : d.journal.begun ≡ None

-- it holds some state; that any history leads there isn't asked
abbrev pub IsDatabase : {R S : Type 0} → (R → Tree) → (S → Tree) → Db R S → Type 0
IsDatabase view source_view d = (s : State) × HoldsState view source_view d s

-- it stands for the history: it holds the state to which that leads, with its rows where they are right
pub record Stands {R S : Type 0} (view : R → Tree) (source_view : S → Tree) (right : Bool) (d : Db R S) (h : List Entry) : Type 0 where
  pub state : State
  pub led : LeadsTo h state
  pub holds : HoldsState view source_view d state
  pub rows : IsTrue right → HasRows d.committed state

-- they hold the same states, and the one has the rows that the other has
pub record HoldsSame {R S : Type 0} (view : R → Tree) (source_view : S → Tree) (old new : Db R S) : Type 0 where
  pub states : (s : State) → HoldsState view source_view old s ↔ HoldsState view source_view new s
  pub rows : (s : State) → HasRows old.committed s → HasRows new.committed s

-- where the frames of its file end
abbrev pub end_in : {R S : Type 0} → Db R S → ℕ
end_in d = d.journal.next

-- the version of its file
abbrev pub version_in : {R S : Type 0} → Db R S → ℕ
version_in d = d.version

-- it can't be used any more: a call that writes has failed, or ran out of memory
abbrev pub is_spent : {R S : Type 0} → Db R S → Bool
is_spent d = d.spent

-- its frames come after a header, then a closed gate, and nothing is pending but after that
abbrev pub IsReady : {R S : Type 0} → Db R S → View → Type 0
IsReady d v = (HEADER_SIZE ≤ d.journal.next) × IsAtRest d.journal.next v

-- the disk holds its file, which tells the history, with the right records or not; nothing is pending but after its frames
pub record IsKept {R S : Type 0} (right : Bool) (d : Db R S) (h : List Entry) (v : View) : Type 0 where
  pub head : List ℕ
  pub is_head : IsHead d.version head
  pub frames : List Frame
  pub some : 1 ≤ length frames
  pub described : Describes head frames d.journal v
  pub tell : Tell right d.version frames h

-- the transaction, which was begun on the database, has come so far
abbrev pub HasCome : {R S : Type 0} → (R → Tree) → (S → Tree) → Db R S → Txn R → txn.Progress → Type 0
HasCome view source_view d x p =
    (s : State) → HoldsState view source_view d s
    → txn.Stands view x s.kind s.sources (tree_of s.tree) (s.now + 1) p

-- what it keeps of its file is the same
abbrev pub IsSameFile : {R S : Type 0} → Db R S → Db R S → Type 0
IsSameFile old new = (new.journal ≡ old.journal) × (new.version ≡ old.version) × (new.spent ≡ old.spent)
