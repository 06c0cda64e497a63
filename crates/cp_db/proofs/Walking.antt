-- What a walk keeps that passes one item more.
use Rattle.std.specs.Prelude.{ℕ, ◌≡◌, ◌≤◌, ◌+◌, ◌++◌, Bool, true, false, List, [], ◌∷◌, length, fold, refl}
use Rattle.std.proofs.Common.{sym, ap, subst, ◌∙◌, append-nil}
use Rattle.std.proofs.lemmas.List.Concat.{flat_map-append}
use Rattle.std.specs.List.{flat_map}
use Rattle.std.specs.declared.option.Option.{Option}
use Rattle.std.specs.declared.option.Option.TheVariants.{None, Some}
use Rattle.cp_model.specs.declared.kind.Kind.{Kind}
use Rattle.cp_model.specs.declared.literal.Literal.{Literal}
use Rattle.cp_model.specs.declared.op.Op.{Op}
use Rattle.cp_model.specs.declared.record.Record.{Record}
use Rattle.cp_model.specs.Tree.{Tree, IsTree}
use Rattle.cp_store.specs.Stores.{KindRows}
use Rattle.cp_model.specs.History.{State, commit as made, start_state}
use Rattle.cp_model.proofs.Contents.{tree_of-aged}
use Rattle.cp_operation.specs.Loaded.{sources_in}
use Rattle.cp_frame.specs.Entries.{WrittenEntry, IsEntry, start, load, commit, stamped}
use Rattle.cp_frame.specs.Sound.{IsSoundBatch, IsSoundSource}
use Rattle.cp_frame.specs.declared.entry.Entry.TheVariants as entry
use Rattle.cp_frame.specs.Items.{Item, an_entry, a_checkpoint, CanStand, entry_meant, records_in, records_with}
use Rattle.cp_frame.proofs.Standing.{stand-split}
use Rattle.cp_db.specs.Committed.{HasTaken, HoldsBatch, IsReplayed, KeepsState, LoadsSource, ReplaysCommit}
use Rattle.cp_db.specs.Opening.{IsStartOf}
use Rattle.cp_db.specs.Walk.{CanReach, HasReached, RowsDone, RowsFit, committed_of}
use Rattle.cp_db.specs.Work.{BeginsWith, Beginning, CommitMoment, IsAtCommit, IsBegun, IsPassed}
use Rattle.cp_db.specs.declared.committed.Committed.{Committed}
use Rattle.cp_db.specs.declared.limits.TheConstants.{TIDS_MAX}
use Rattle.cp_db.specs.declared.work.CommitAt.{CommitAt}
use Rattle.cp_db.specs.declared.work.Passed.{Passed}
use Rattle.cp_db.specs.declared.work.Passed.TheVariants.{Load, Checkpoint}
use Rattle.cp_db.specs.declared.walk.HistoryWalk.{HistoryWalk}
use Rattle.cp_db.proofs.OpeningItems.{checkpoint_taken}
use Rattle.cp_db.proofs.Taking.{keeps-begun, refused-source, taken-source}
use Rattle.cp_db.proofs.TakingCommits.{commit_of, refused-commit, taken-commit}

-- ---- rows as the work of a walk

-- what a walk begins with has no records
pub rows-begun : (first : Option State) (items : List Item) (s : State) → BeginsWith first items s → [] ≡ flat_map records_in items
rows-begun None [] s is = absurd is
rows-begun None (an_entry (start k u) ∷ []) s is = refl
rows-begun None (an_entry (load n u) ∷ []) s is = absurd is.0.0
rows-begun None (an_entry (commit b) ∷ []) s is = absurd is.0.0
rows-begun None (an_entry (stamped r b) ∷ []) s is = absurd is.0.0
rows-begun None (a_checkpoint body ∷ []) s is = refl
rows-begun None (i ∷ j ∷ items) s is = absurd is
rows-begun (Some z) [] s is = refl
rows-begun (Some z) (i ∷ items) s is = absurd is

-- so that a store without rows is begun with it
pub rows-none : (x : KindRows) (kind : Kind) (last : ℕ) (t : Tree) → x.rows.list ≡ []
    → (first : Option State) (place : ℕ → ℕ) (items : List Item) (s : State) → IsBegun first items s kind last t → x.rows.list ≡ flat_map records_in items
rows-none x kind last t none = λ first place items s is. none ∙ rows-begun first items s is.begins

-- nor has what it passes
pub no-record : (p : Passed) (place : ℕ) (i : Item) → IsPassed p place i → records_in i ≡ []
no-record (Load at) place (an_entry (start k u)) is = absurd is
no-record (Load at) place (an_entry (load n u)) is = refl
no-record (Load at) place (an_entry (commit b)) is = absurd is
no-record (Load at) place (an_entry (stamped r b)) is = absurd is
no-record (Load at) place (a_checkpoint body) is = absurd is
no-record (Checkpoint at) place (an_entry w) is = absurd is
no-record (Checkpoint at) place (a_checkpoint body) is = refl

pub rows-stay : (rs : List Record) (items : List Item) (i : Item) → rs ≡ flat_map records_in items → records_in i ≡ [] → rs ≡ flat_map records_in (items ++ i ∷ [])
rows-stay rs items i found none =
    found ∙ sym (append-nil (flat_map records_in items)) ∙ ap (λ (x : List Record). flat_map records_in items ++ x) (sym none ∙ sym (append-nil (records_in i))) ∙ sym (flat_map-append records_in items (i ∷ []))

-- a commit has those that are written with it
pub rows-commit : (rs more : List Record) (begun : Beginning) (items : List Item) (s : State) (x : WrittenEntry) (c : CommitAt) (moment : CommitMoment) → rs ≡ flat_map records_in items → IsAtCommit begun items s x c moment
    → more ≡ rs ++ c.records → more ≡ flat_map records_in (items ++ an_entry x ∷ [])
rows-commit rs more begun items s x c moment found is added =
    added
    ∙ ap (λ (l : List Record). l ++ c.records) found
    ∙ ap (λ (l : List Record). flat_map records_in items ++ l) (sym (commit_of x c.ops c.records is.holds).records ∙ sym (append-nil (records_with x)))
    ∙ sym (flat_map-append records_in items (an_entry x ∷ []))

-- ---- the start

module _ {R S W : Type 0} (view : R → Tree) (source_view : S → Tree) (Fits : W → Kind → ℕ → Tree → Type 0) where
  -- a walk that begins has the start alone
  pub reached-first : (w : HistoryWalk R S W) (i : Item) → IsStartOf i w.kind (view w.tree) → IsTree (view w.tree) → sources_in source_view w.sources ≡ [] → w.last ≡ 0 → w.commits ≡ 0 → Fits w.work w.kind w.last (view w.tree) → HasReached view source_view Fits None w (i ∷ [])
  reached-first w i is tree none last counted fits = record {
    records = [];
    taken = record {
      stand = (is.can, tt);
      state = start_state w.kind (view w.tree);
      replayed = is.leads;
      keeps = keeps-begun view source_view w.kind (committed_of w []) tree none refl last counted;
      kept = rows-begun None (i ∷ []) (start_state w.kind (view w.tree)) (is.can, is.leads);
    };
    fits = fits;
  }

-- it begins in the state of the start
pub begun-first : (i : Item) (k : Kind) (t : Tree) → IsStartOf i k t → IsBegun None (i ∷ []) (start_state k t) k 0 t
unfolding start_state
begun-first i k t is = record { begins = (is.can, is.leads); of_kind = refl; after = refl; tree = tree_of-aged t }

module _ {R S W : Type 0} (view : R → Tree) (source_view : S → Tree) (Fits : W → Kind → ℕ → Tree → Type 0) (first : Option State) (w : HistoryWalk R S W) (items : List Item) (g : HasReached view source_view Fits first w items) where
  abbrev pub state_of : State
  state_of = g.taken.state

  -- ---- a checkpoint

  -- a checkpoint adds nothing
  pub checkpoint-reached : (body : List ℕ) (k : W) → Fits k w.kind w.last (view w.tree) → HasReached view source_view Fits first (record w { work = k }) (items ++ a_checkpoint body ∷ [])
  checkpoint-reached body k fits = record {
    records = g.records;
    taken = checkpoint_taken view source_view first (committed_of w g.records) items g.taken body;
    fits = fits;
  }

  -- ---- an entry

  -- an entry that has been passed could stand after the others
  pub could-stand : (x : WrittenEntry) (n : HistoryWalk R S W) → HasReached view source_view Fits first n (items ++ an_entry x ∷ []) → CanStand false (Some state_of) (an_entry x)
  could-stand x n reached =
      let all = (stand-split false first items (an_entry x ∷ []) reached.taken.stand).1 in
      subst (λ (o : Option State). CanStand false o (an_entry x)) g.taken.replayed all.0

  module _ (n : HistoryWalk R S W) (x : WrittenEntry) where
    -- a source that was loaded is in the history of the walk, or may not follow
    pub reaches-source : (name : List ℕ) (l : Literal) (b : Bool) → IsEntry (entry.Load name l) x → IsSoundSource name l → LoadsSource (sources_in source_view w.sources) (sources_in source_view n.sources) name l b
        → n.tree ≡ w.tree → n.kind ≡ w.kind → n.last ≡ w.last → n.commits ≡ w.commits → Fits n.work n.kind n.last (view n.tree) → CanReach view source_view Fits first items x n b
    reaches-source name l true is sound loads tree kind last counted fits = record {
      records = g.records;
      taken = taken-source view source_view first (committed_of w g.records) (committed_of n g.records) items g.taken name l x is sound loads tree (λ j. record { kind = kind j; rows = record { list = g.records; upto = last j } }) counted;
      fits = fits;
    }
    reaches-source name l false is sound loads tree kind last counted fits = refused-source view source_view first (committed_of w g.records) (committed_of n g.records) items g.taken name l x (sources_in source_view n.sources) is loads

    module _ (os : List Op) (rs : List Record) (holds : HoldsBatch x os rs) where
      -- a commit may not follow where it may not be replayed
      pub refused-same : (u : Tree) → ReplaysCommit (sources_in source_view w.sources) (view w.tree) u w.kind w.last os rs None → CanReach view source_view Fits first items x n false
      refused-same u none = refused-commit view source_view first (committed_of w g.records) items g.taken x os rs holds none

      -- and has been reached where it has been, without its records
      pub reached-commit : (u : R) (trees : Bool) (tids : ℕ) → IsSoundBatch trees os rs → IsReplayed (sources_in source_view w.sources) (view w.tree) (view u) w.kind w.last os rs tids
          → n.tree ≡ u → n.sources ≡ w.sources → n.kind ≡ w.kind → n.last ≡ w.last + tids → n.commits ≡ w.commits + 1 → n.last ≤ TIDS_MAX → Fits n.work n.kind n.last (view n.tree) → HasReached view source_view Fits first n (items ++ an_entry x ∷ [])
      reached-commit u trees tids sound is tree sources kind last counted few fits =
          let old = committed_of w g.records in
          let new = committed_of n (g.records ++ rs) in
          record {
            records = g.records ++ rs;
            taken = taken-commit view source_view first old items g.taken x os rs holds new u trees sound tids is
                (record { tree = tree; sources = sources; kind = kind; rows = refl; upto = last; commits = counted; few = few });
            fits = fits;
          }

  -- a commit that has been passed is the next one
  pub at-commit : (place : ℕ → ℕ) (n : HistoryWalk R S W) (x : WrittenEntry) (c : CommitAt) → HoldsBatch x c.ops c.records → entry_meant x ≡ made c.stamp c.ops → c.at ≡ place (length items) → HasReached view source_view Fits first n (items ++ an_entry x ∷ [])
      → IsAtCommit (record { first = first; place = place }) items state_of x c (record { kind = w.kind; last = w.last; sources = sources_in source_view w.sources; tree = view w.tree })
  at-commit place n x c holds means at reached =
      let z = g.taken.keeps in
      record {
        stand = g.taken.stand;
        leads = g.taken.replayed;
        of_kind = sym z.kind;
        after = sym z.upto;
        sources = sym z.sources;
        tree = sym z.tree;
        holds = holds;
        means = means;
        at = at;
        can = could-stand x n reached;
      }

-- an entry that is a load's is passed as one
pub passed-load : (name : List ℕ) (l : Literal) (x : WrittenEntry) (at place : ℕ) → at ≡ place → IsEntry (entry.Load name l) x → IsPassed (Load at) place (an_entry x)
passed-load name l (start k u) at place same is = absurd is
passed-load name l (load m u) at place same is = same
passed-load name l (commit b) at place same is = absurd is
passed-load name l (stamped r b) at place same is = absurd is

-- ---- an opening

module _ {R S : Type 0} (view : R → Tree) (source_view : S → Tree) (first : Option State) (w : HistoryWalk R S KindRows) (items : List Item) (g : HasReached view source_view RowsFit first w items) where
  abbrev opened : Committed R S
  opened = record { tree = w.tree; sources = w.sources; store = w.work; commits = w.commits }

  -- what is kept with its rows is the state that the walk has reached
  pub opened-keeps : KeepsState view source_view opened g.taken.state
  opened-keeps =
      let z = g.taken.keeps in
      record {
        kind = g.fits.0 ∙ z.kind;
        sources = z.sources;
        tree = z.tree;
        upto = g.fits.1 ∙ z.upto;
        commits = z.commits;
        tids = z.tids;
        few = z.few;
        sound = z.sound;
      }

  -- and its rows are the records of the items
  pub opened-taken : RowsDone w.work first (λ n. n) items → HasTaken view source_view first opened items
  opened-taken done = record { stand = g.taken.stand; state = g.taken.state; replayed = g.taken.replayed; keeps = opened-keeps; kept = done }
