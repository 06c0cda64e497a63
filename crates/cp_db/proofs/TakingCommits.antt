-- A commit that is replayed after others, or that may not follow them.
use Rattle.std.specs.Prelude.{ℕ, ◌≡◌, ◌≤◌, ◌+◌, ◌++◌, Bool, false, List, [], ◌∷◌, length, fold, refl}
use Rattle.std.proofs.Common.{sym, ap, subst, ◌∙◌, arith}
use Rattle.std.specs.declared.option.Option.{Option}
use Rattle.std.specs.declared.option.Option.TheVariants.{Some}
use Rattle.cp_model.specs.declared.kind.Kind.{Kind}
use Rattle.cp_model.specs.declared.op.Op.{Op}
use Rattle.cp_model.specs.declared.record.Record.{Record}
use Rattle.cp_model.specs.declared.stamp.Stamp.{Stamp}
use Rattle.cp_model.specs.Past.{tree_of}
use Rattle.cp_model.specs.Tree.{Tree, Source}
use Rattle.cp_model.specs.History.{State, commit, CanCommit, after_commit, steps_of, then_entry}
use Rattle.cp_model.proofs.Histories.{sound-commit}
use Rattle.cp_frame.specs.Entries as written
use Rattle.cp_frame.specs.Entries.{Batch, WrittenEntry, IsBatchOf, IsEntry}
use Rattle.cp_frame.specs.declared.entry.Entry.TheVariants as entry
use Rattle.cp_frame.specs.Sound.{IsSoundBatch}
use Rattle.cp_operation.specs.Loaded.{sources_in}
use Rattle.cp_operation.specs.Passed.{stage_after, AllAccepted}
use Rattle.cp_engine.proofs.Committed.{committed, can-commit, commit-accepted}
use Rattle.cp_frame.specs.Items.{Item, an_entry, CanStand, HasRecords, after_item, entry_meant, records_with, ops_in, no_stamp}
use Rattle.cp_db.specs.Committed.{HasTaken, HasKept, HoldsBatch, IsReplayed, KeepsState, ReplaysCommit, TidsLieBetween}
use Rattle.cp_db.specs.declared.committed.Committed.{Committed}
use Rattle.cp_db.specs.declared.limits.TheConstants.{TIDS_MAX}
use Rattle.cp_db.proofs.Taking.{taken-more}

-- ---- what is written of a commit

-- the entry means a commit of the operations, and the records are written with it
pub record IsCommitOf (w : WrittenEntry) (os : List Op) (rs : List Record) : Type 0 where
  pub stamp : Stamp
  pub means : entry_meant w ≡ commit stamp os
  pub records : records_with w ≡ rs

-- a commit is written so
pub holds-commit : (os : List Op) (rs : List Record) (w : WrittenEntry) → IsEntry (entry.Commit os rs) w → HoldsBatch w os rs
holds-commit os rs (written.start k t) is = absurd is
holds-commit os rs (written.load n t) is = absurd is
holds-commit os rs (written.commit b) is = is
holds-commit os rs (written.stamped r b) is = absurd is

-- and so is one with a stamp
pub holds-stamped : (stamp : Stamp) (os : List Op) (rs : List Record) (w : WrittenEntry) → IsEntry (entry.Stamped stamp os rs) w → HoldsBatch w os rs
holds-stamped stamp os rs (written.start k t) is = absurd is
holds-stamped stamp os rs (written.load n t) is = absurd is
holds-stamped stamp os rs (written.commit b) is = absurd is
holds-stamped stamp os rs (written.stamped r b) is = is.1

-- what is written of a commit means a commit of these operations, with its stamp or with none
pub means-commit : (os : List Op) (rs : List Record) (w : WrittenEntry) → IsEntry (entry.Commit os rs) w → entry_meant w ≡ commit no_stamp os
means-commit os rs (written.start k t) is = absurd is
means-commit os rs (written.load n t) is = absurd is
means-commit os rs (written.commit b) is = ap (commit no_stamp) is.ops
means-commit os rs (written.stamped r b) is = absurd is

pub means-stamped : (stamp : Stamp) (os : List Op) (rs : List Record) (w : WrittenEntry) → IsEntry (entry.Stamped stamp os rs) w → entry_meant w ≡ commit stamp os
means-stamped stamp os rs (written.start k t) is = absurd is
means-stamped stamp os rs (written.load n t) is = absurd is
means-stamped stamp os rs (written.commit b) is = absurd is
means-stamped stamp os rs (written.stamped r b) is = λ j. commit (is.0 j) (is.1.ops j)

-- it may stand after a state where the operations may be committed and the records have Tids of theirs, or are theirs
abbrev pub MayStand : Bool → State → List Op → List Record → Type 0
MayStand right s os rs = CanCommit s os × HasRecords right s (after_commit s os) rs

may_of : (right : Bool) (s : State) (b : Batch) (os : List Op) (rs : List Record) → IsBatchOf b os rs → MayStand right s (ops_in b) b.records → MayStand right s os rs
may_of right s b os rs h m = subst (MayStand right s os) h.records (subst (λ (o : List Op). MayStand right s o b.records) h.ops m)

may_as : (right : Bool) (s : State) (b : Batch) (os : List Op) (rs : List Record) → IsBatchOf b os rs → MayStand right s os rs → MayStand right s (ops_in b) b.records
may_as right s b os rs h m = subst (λ (o : List Op). MayStand right s o b.records) (sym h.ops) (subst (MayStand right s os) (sym h.records) m)

pub commit_of : (w : WrittenEntry) (os : List Op) (rs : List Record) → HoldsBatch w os rs → IsCommitOf w os rs
commit_of (written.start k t) os rs h = absurd h
commit_of (written.load n t) os rs h = absurd h
commit_of (written.commit b) os rs h = record { stamp = no_stamp; means = ap (commit no_stamp) h.ops; records = h.records }
commit_of (written.stamped r b) os rs h = record { stamp = r; means = ap (commit r) h.ops; records = h.records }

-- what may stand after a state, and only that
pub may_when : (right : Bool) (s : State) (w : WrittenEntry) (os : List Op) (rs : List Record) → HoldsBatch w os rs → CanStand right (Some s) (an_entry w) → MayStand right s os rs
may_when right s (written.start k t) os rs h c = absurd h
may_when right s (written.load n t) os rs h c = absurd h
may_when right s (written.commit b) os rs h c = may_of right s b os rs h c
may_when right s (written.stamped r b) os rs h c = may_of right s b os rs h c

pub can_when : (right : Bool) (s : State) (w : WrittenEntry) (os : List Op) (rs : List Record) → HoldsBatch w os rs → MayStand right s os rs → CanStand right (Some s) (an_entry w)
can_when right s (written.start k t) os rs h m = absurd h
can_when right s (written.load n t) os rs h m = absurd h
can_when right s (written.commit b) os rs h m = may_as right s b os rs h m
can_when right s (written.stamped r b) os rs h m = may_as right s b os rs h m

-- what was replayed of the same kind after the same Tid, with the same result
pub replays-same : (ss : List Source) (old new : Tree) (os : List Op) (rs : List Record) {j k : Kind} {m n : ℕ} {o p : Option ℕ} → j ≡ k → m ≡ n → o ≡ p → ReplaysCommit ss old new j m os rs o → ReplaysCommit ss old new k n os rs p
replays-same ss old new os rs {j} {k} {m} {n} {o} {p} e f g r =
    subst (λ (x : Kind). ReplaysCommit ss old new x n os rs p) e
    (subst (λ (x : ℕ). ReplaysCommit ss old new j x os rs p) f (subst (λ (x : Option ℕ). ReplaysCommit ss old new j m os rs x) g r))

-- ---- what is kept of a commit

module _ {R S : Type 0} (view : R → Tree) (source_view : S → Tree) (c m : Committed R S) where
  -- a commit that may be made has been
  pub keeps-committed : (os : List Op) (s : State) (z : KeepsState view source_view c s) → CanCommit s os
      → view m.tree ≡ (stage_after s.kind s.sources (tree_of s.tree) (s.now + 1) os).tree → m.sources ≡ c.sources → m.store.kind ≡ c.store.kind
      → m.store.rows.upto ≡ c.store.rows.upto + length (steps_of s.kind os) → m.commits ≡ c.commits + 1 → m.store.rows.upto ≤ TIDS_MAX → KeepsState view source_view m (after_commit s os)
  keeps-committed os s z can tree sources kind upto counted few =
      let a = committed s os can.some (commit-accepted s os can) in
      let now = a.now in
      let commits = a.commits in
      let some = a.some in
      let tids = z.tids in
      let last : m.store.rows.upto ≡ (after_commit s os).now = upto ∙ ap (λ n. n + length (steps_of s.kind os)) z.upto ∙ sym now in
      record {
        kind = kind ∙ z.kind ∙ sym a.kind;
        sources = ap (sources_in source_view) sources ∙ z.sources ∙ sym a.sources;
        tree = tree ∙ sym a.tree;
        upto = last;
        commits = counted ∙ ap (λ n. n + 1) z.commits ∙ sym commits;
        tids = omega (arith, now, commits, some, tids);
        few = subst (λ n. n ≤ TIDS_MAX) last few;
        sound = sound-commit s os z.sound can;
      }

module _ {R S : Type 0} (view : R → Tree) (source_view : S → Tree) (first : Option State) (c : Committed R S) (items : List Item) (old : HasTaken view source_view first c items) (w : WrittenEntry) (os : List Op) (rs : List Record) (holds : HoldsBatch w os rs) where
  abbrev s : State
  s = old.state

  -- operations that are accepted on what is kept are accepted after its history, and the other way round
  accepted_after : AllAccepted (sources_in source_view c.sources) (view c.tree) os → AllAccepted s.sources (tree_of s.tree) os
  accepted_after a = subst (λ (ss : List Source). AllAccepted ss (tree_of s.tree) os) old.keeps.sources (subst (λ t. AllAccepted (sources_in source_view c.sources) t os) old.keeps.tree a)

  accepted_here : AllAccepted s.sources (tree_of s.tree) os → AllAccepted (sources_in source_view c.sources) (view c.tree) os
  accepted_here a = subst (λ (ss : List Source). AllAccepted ss (view c.tree) os) (sym old.keeps.sources) (subst (λ t. AllAccepted s.sources t os) (sym old.keeps.tree) a)

  -- the last Tid of the commit
  last_tid : (tids : ℕ) → tids ≡ length (steps_of c.store.kind os) → 1 ≤ length os → AllAccepted s.sources (tree_of s.tree) os → c.store.rows.upto + tids ≡ (after_commit s os).now
  last_tid tids e some a =
      ap (λ n. c.store.rows.upto + n) (e ∙ ap (λ (k : Kind). length (steps_of k os)) old.keeps.kind) ∙ ap (λ n. n + length (steps_of s.kind os)) old.keeps.upto
      ∙ sym (committed s os some a).now

  -- where it may stand, each record has one of the Tids
  tids_of : (tids : ℕ) → tids ≡ length (steps_of c.store.kind os) → CanStand false (Some s) (an_entry w) → TidsLieBetween c.store.rows.upto (c.store.rows.upto + tids) rs
  tids_of tids e can =
      let may = may_when false s w os rs holds can in
      subst (λ n. TidsLieBetween n (c.store.rows.upto + tids) rs) (sym old.keeps.upto)
      (subst (λ n. TidsLieBetween s.now n rs) (sym (last_tid tids e may.0.some (commit-accepted s os may.0))) may.1.tids)

  stands_so : CanStand false (fold after_item first items) (an_entry w) → CanStand false (Some s) (an_entry w)
  stands_so can = subst (λ (o : Option State). CanStand false o (an_entry w)) old.replayed can

  -- a commit may not follow where a record has none of the Tids, or an operation isn't accepted
  pub refused-commit : (TidsLieBetween c.store.rows.upto (c.store.rows.upto + length (steps_of c.store.kind os)) rs → AllAccepted (sources_in source_view c.sources) (view c.tree) os → ⊥) → CanStand false (fold after_item first items) (an_entry w) → ⊥
  refused-commit none can =
      let so = stands_so can in
      none (tids_of (length (steps_of c.store.kind os)) refl so) (accepted_here (commit-accepted s os (may_when false s w os rs holds so).0))

  module _ (m : Committed R S) (u : R) (trees : Bool) (sound : IsSoundBatch trees os rs) (tids : ℕ) (is : IsReplayed (sources_in source_view c.sources) (view c.tree) (view u) c.store.kind c.store.rows.upto os rs tids) where
    can_commit : CanCommit s os
    can_commit = can-commit s os sound.some sound.few is.written (accepted_after is.accepted)

    -- the tree after the operations is that of the commit
    tree_kept : m.tree ≡ u → view m.tree ≡ (stage_after s.kind s.sources (tree_of s.tree) (s.now + 1) os).tree
    tree_kept same =
        ap view same ∙ is.tree s.kind (s.now + 1)
        ∙ ap (λ (ss : List Source). (stage_after s.kind ss (view c.tree) (s.now + 1) os).tree) old.keeps.sources
        ∙ ap (λ t. (stage_after s.kind s.sources t (s.now + 1) os).tree) old.keeps.tree

    -- the commit has been taken
    pub taken-commit : HasKept (record c { tree = u }) m tids rs → HasTaken view source_view first m (items ++ an_entry w ∷ [])
    taken-commit kept =
        let meant = commit_of w os rs holds in
        let low = subst (λ n. TidsLieBetween n (c.store.rows.upto + tids) rs) old.keeps.upto is.between in
        let between = subst (λ n. TidsLieBetween s.now n rs) (last_tid tids is.counted sound.some (accepted_after is.accepted)) low in
        let can = can_when false s w os rs holds (can_commit, record { tids = between; all = λ f. cc }) in
        let steps = is.counted ∙ ap (λ (k : Kind). length (steps_of k os)) old.keeps.kind in
        let keeps =
        keeps-committed view source_view c m os s old.keeps can_commit (tree_kept kept.tree) kept.sources kept.kind
        (kept.upto ∙ ap (λ n. c.store.rows.upto + n) steps) kept.commits kept.few in
        taken-more view source_view first c m items w old can (after_commit s os) (ap (then_entry (Some s)) meant.means) keeps
        (kept.rows ∙ ap (λ (x : List Record). c.store.rows.list ++ x) (sym meant.records))
