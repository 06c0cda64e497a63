-- What a database keeps in memory of its history.
use Rattle.std.specs.Prelude.{ℕ, ◌≡◌, ◌≤◌, ◌<◌, ◌+◌, ◌++◌, Bool, true, false, List, [], ◌∷◌, length, fold, is_some}
use Rattle.std.specs.List.{AllByRecursion, flat_map}
use Rattle.std.specs.declared.option.Option.{Option}
use Rattle.std.specs.declared.option.Option.TheVariants.{Some, None}
use Rattle.cp_path.specs.Text.{text_eq}
use Rattle.cp_model.specs.Keyed.{from_entries}
use Rattle.cp_model.specs.Literals.{literal_rows}
use Rattle.cp_model.specs.Place.{target}
use Rattle.cp_model.specs.Tree.{Tree, Source, source}
use Rattle.cp_model.specs.Past.{tree_of}
use Rattle.cp_model.specs.declared.kind.Kind.{Kind}
use Rattle.cp_model.specs.declared.limits.TheConstants.{SOURCES_MAX}
use Rattle.cp_model.specs.declared.literal.Literal.{Literal}
use Rattle.cp_model.specs.History.{Entry, State, AreWritten, IsLegal, replay, steps_of}
use Rattle.cp_model.specs.Laws.{IsSound}
use Rattle.cp_model.specs.declared.op.Op.{Op}
use Rattle.cp_model.specs.declared.record.Record.{Record}
use Rattle.cp_frame.specs.Entries as written
use Rattle.cp_frame.specs.Entries.{WrittenEntry, IsBatchOf}
use Rattle.cp_operation.specs.Loaded.{sources_in}
use Rattle.cp_operation.specs.Passed.{stage_after, AllAccepted}
use Rattle.cp_frame.specs.Items.{Item, AllStand, after_item, records_in}
use Rattle.cp_db.specs.declared.committed.Committed.{Committed}
use Rattle.cp_db.specs.declared.limits.TheConstants.{TIDS_MAX}

-- the state is kept in memory: its kind, sources, tree, last Tid and number of commits, and not its pasts and rows; it is within every limit
pub record KeepsState {R S : Type 0} (view : R → Tree) (source_view : S → Tree) (c : Committed R S) (s : State) : Type 0 where
  pub kind : c.store.kind ≡ s.kind
  pub sources : sources_in source_view c.sources ≡ s.sources
  pub tree : view c.tree ≡ tree_of s.tree
  pub upto : c.store.rows.upto ≡ s.now
  pub commits : c.commits ≡ s.commits
  pub tids : s.commits ≤ s.now
  pub few : s.now ≤ TIDS_MAX
  pub sound : IsSound s

-- its rows are kept
abbrev pub HasRows : {R S : Type 0} → Committed R S → State → Type 0
HasRows c s = c.store.rows.list ≡ s.rows

-- the history may be one, and leads to the state
pub record LeadsTo (h : List Entry) (s : State) : Type 0 where
  pub legal : IsLegal h
  pub replayed : replay h ≡ Some s

-- from this state on, or from the beginning, these items were replayed one after another, and their records kept
pub record HasTaken {R S : Type 0} (view : R → Tree) (source_view : S → Tree) (first : Option State) (c : Committed R S) (items : List Item) : Type 0 where
  pub stand : AllStand false first items
  pub state : State
  pub replayed : fold after_item first items ≡ Some state
  pub keeps : KeepsState view source_view c state
  pub kept : c.store.rows.list ≡ flat_map records_in items

-- ---- replaying one entry more

-- each record has a Tid after low and up to high
abbrev pub TidsLieBetween : ℕ → ℕ → List Record → Type 0
TidsLieBetween low high rs = AllByRecursion (λ r. (low < r.tid) × (r.tid ≤ high)) rs

-- under a free name, among few sources, the tree was added behind the others
pub record IsLoaded (old new : List Source) (n : List ℕ) (l : Literal) : Type 0 where
  pub other : text_eq n target ≡ false
  pub fresh : is_some (source old n) ≡ false
  pub few : length old < SOURCES_MAX
  pub added : new ≡ old ++ record { name = n; tree = from_entries (literal_rows l) } ∷ []

-- the tree was loaded as a source, or may not be
abbrev pub LoadsSource : List Source → List Source → List ℕ → Literal → Bool → Type 0
LoadsSource old new n l true = IsLoaded old new n l
LoadsSource old new n l false = text_eq n target ≡ false → is_some (source old n) ≡ false → length old < SOURCES_MAX → ⊥

-- the operations are accepted and lead from the old tree to the new one, and each record has one of their Tids, so many after the last
pub record IsReplayed (ss : List Source) (old new : Tree) (k : Kind) (last : ℕ) (os : List Op) (rs : List Record) (tids : ℕ) : Type 0 where
  pub written : AreWritten os
  pub accepted : AllAccepted ss old os
  pub tree : (j : Kind) (n : ℕ) → new ≡ (stage_after j ss old n os).tree
  pub counted : tids ≡ length (steps_of k os)
  pub between : TidsLieBetween last (last + tids) rs

-- the commit was replayed and has so many Tids, or may not follow
abbrev pub ReplaysCommit : List Source → Tree → Tree → Kind → ℕ → List Op → List Record → Option ℕ → Type 0
ReplaysCommit ss old new k last os rs (Some tids) = IsReplayed ss old new k last os rs tids
ReplaysCommit ss old new k last os rs None = TidsLieBetween last (last + length (steps_of k os)) rs → AllAccepted ss old os → ⊥

-- the records were kept behind the others, as those of a commit with so many Tids; all else is the same
pub record HasKept {R S : Type 0} (old new : Committed R S) (tids : ℕ) (rs : List Record) : Type 0 where
  pub tree : new.tree ≡ old.tree
  pub sources : new.sources ≡ old.sources
  pub kind : new.store.kind ≡ old.store.kind
  pub rows : new.store.rows.list ≡ old.store.rows.list ++ rs
  pub upto : new.store.rows.upto ≡ old.store.rows.upto + tids
  pub commits : new.commits ≡ old.commits + 1
  pub few : new.store.rows.upto ≤ TIDS_MAX

-- these operations and records are written so
abbrev pub HoldsBatch : WrittenEntry → List Op → List Record → Type 0
HoldsBatch (written.start k t) os rs = ⊥
HoldsBatch (written.load n t) os rs = ⊥
HoldsBatch (written.commit b) os rs = IsBatchOf b os rs
HoldsBatch (written.stamped s b) os rs = IsBatchOf b os rs
