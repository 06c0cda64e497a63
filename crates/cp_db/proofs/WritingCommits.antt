-- A commit more: its entry, and what the database stands for then.
use Rattle.std.proofs.Common.{◌≡◌, ℕ, ◌+◌, ◌≤◌, ◌<◌, Bool, true, ◌&&◌, List, [], ◌∷◌, ◌++◌, length, is_some, nat_lt, refl, sym, ap, ◌∙◌, subst, arith, length-append, append-nil}
use Rattle.std.proofs.lemmas.Bool.Decides.{nat_tests}
use Rattle.std.specs.List.{AllByRecursion, list_all}
use Rattle.std.specs.declared.option.Option.{Option}
use Rattle.std.specs.declared.option.Option.TheVariants.{None, Some}
use Rattle.cp_path.specs.declared.loc.Loc.{Loc}
use Rattle.cp_path.specs.Place.{in_target}
use Rattle.cp_model.specs.declared.limits.TheConstants.{OPS_MAX}
use Rattle.cp_model.specs.declared.op.Op.{Op}
use Rattle.cp_model.specs.declared.op.Op.TheVariants.{Ins, Del, Copy}
use Rattle.cp_model.specs.declared.record.Record.{Record}
use Rattle.cp_model.specs.declared.record.RecOp.{RecOp}
use Rattle.cp_model.specs.declared.record.RecOp.TheVariants as op
use Rattle.cp_model.specs.declared.stamp.Stamp.{Stamp}
use Rattle.cp_model.specs.Past.{tree_of}
use Rattle.cp_model.specs.Tree.{Tree, Source}
use Rattle.cp_model.specs.History.{Entry, State, AreWritten, CanCommit, CanFollow, after_commit, replay, steps_of, then_entry}
use Rattle.cp_model.specs.History as history
use Rattle.cp_model.specs.Laws.{IsSound}
use Rattle.cp_model.proofs.Histories.{replay-snoc, legal-snoc, sound-commit}
use Rattle.cp_model.proofs.Passing.{and_true}
use Rattle.cp_record.specs.Bytes.{commit_length, record_bytes, records_bytes}
use Rattle.cp_record.specs.Kept.{is_copy}
use Rattle.cp_model.specs.Changes.{AreNext, is_between, is_source}
use Rattle.cp_format.specs.Formats.{Reads}
use Rattle.cp_frame.specs.Entries.{IsEntry, WrittenEntry, start, load, commit, stamped, entry_format, written_entry}
use Rattle.cp_frame.specs.Sound.{AreWritable, IsSoundBatch, IsSoundEntry, IsSoundOp}
use Rattle.cp_frame.specs.declared.entry.Entry.TheVariants as frame
use Rattle.cp_journal.specs.declared.limits.TheConstants.{BODY_MAX}
use Rattle.cp_operation.specs.Accepted.{IsAcceptable}
use Rattle.cp_operation.specs.Passed.{AllAccepted, records_of}
use Rattle.cp_engine.specs.Transactions.{IsStep}
use Rattle.cp_operation.specs.Loaded.{sources_in}
use Rattle.cp_engine.specs.declared.txn.Step.{Step}
use Rattle.cp_operation.proofs.Accepting.{accepted-targets}
use Rattle.cp_engine.proofs.Committed.{IsCommitted, commit-accepted, committed}
use Rattle.cp_frame.specs.Items.{IsOfVersion, CanStand, HasRecords, an_entry, entry_meant, ops_in}
use Rattle.cp_frame.specs.Sizes.{stamped_size}
use Rattle.cp_frame.proofs.Measures.{stamped-measured}
use Rattle.cp_db.specs.Committed.{HasKept, HasRows, KeepsState, LeadsTo}
use Rattle.cp_db.specs.Writing.{commit_size}
use Rattle.cp_db.specs.declared.committed.Committed.{Committed}
use Rattle.cp_db.specs.declared.limits.TheConstants.{TIDS_MAX}
use Rattle.cp_db.proofs.WritingFrames.{IsNext}
use Rattle.cp_db.proofs.WritingWithin.{within-passed}

-- ---- what may be written

sound_op : (o : Op) → IsAcceptable o → IsSoundOp true o
sound_op (Ins p a l) h = (h.0, (h.1, h.2), λ never. absurd (cc))
sound_op (Del a p) h = h
sound_op (Copy q p) h = h

sound_ops : (ops : List Op) → AllByRecursion IsAcceptable ops → AllByRecursion (IsSoundOp true) ops
sound_ops [] h = tt
sound_ops (o ∷ ops) h = (sound_op o h.0, sound_ops ops h.1)

source_is : (o : RecOp) (q : Option Loc) → is_source o q ≡ true → is_some q ≡ is_copy o
source_is op.I None h = refl
source_is op.I (Some q) h = absurd (cc)
source_is op.C None h = absurd (cc)
source_is op.C (Some q) h = refl
source_is op.D None h = refl
source_is op.D (Some q) h = absurd (cc)
source_is op.K None h = refl
source_is op.K (Some q) h = absurd (cc)

writable : (low high : ℕ) (rs : List Record) → list_all (λ r. is_source r.op r.src) rs ≡ true → list_all (is_between low high) rs ≡ true → AreWritable rs
writable low high [] s b = tt
writable low high (r ∷ rs) s b =
    let sources = and_true (is_source r.op r.src) (list_all (λ r. is_source r.op r.src) rs) s in
    let between = and_true (is_between low high r) (list_all (is_between low high) rs) b in
    let inside = and_true (in_target r.loc && nat_lt low r.tid) (nat_lt r.tid (high + 1)) between.0 in
    (((and_true (in_target r.loc) (nat_lt low r.tid) inside.0).0, source_is r.op r.src sources.0), writable low high rs sources.1 between.1)

-- the Tids of records that come next
tids_between : (low high : ℕ) (rs : List Record) → list_all (is_between low high) rs ≡ true → AllByRecursion (λ r. (low < r.tid) × (r.tid ≤ high)) rs
tids_between low high [] b = tt
tids_between low high (r ∷ rs) b =
    let between = and_true (is_between low high r) (list_all (is_between low high) rs) b in
    let inside = and_true (in_target r.loc && nat_lt low r.tid) (nat_lt r.tid (high + 1)) between.0 in
    let above = (and_true (in_target r.loc) (nat_lt low r.tid) inside.0).1 in
    ((after low r.tid above, upto r.tid high inside.1), tids_between low high rs between.1)
  where
    after : (m n : ℕ) → nat_lt m n ≡ true → m < n
    after m n h = grind (arith, nat_tests)

    upto : (m n : ℕ) → nat_lt m (n + 1) ≡ true → m ≤ n
    upto m n h = grind (arith, nat_tests)

-- each record has a byte at least
records_few : (rs : List Record) → length rs ≤ length (records_bytes rs)
unfolding records_bytes record_bytes
records_few [] = omega arith
records_few (r ∷ rs) = omega (arith, records_few rs, length-append (record_bytes r) (records_bytes rs))

commit_few : (ops : List Op) (rs : List Record) → length rs ≤ commit_length ops rs
unfolding commit_length
commit_few ops rs = omega (arith, records_few rs)

module _ {R : Type 0} (view : R → Tree) (s : State) (ops : List Op) (x : Step R) (legal : IsSound s) (can : CanCommit s ops)
    (made : IsStep view s.kind s.sources (tree_of s.tree) (s.now + 1) ops BODY_MAX x) where
  abbrev rows : List Record
  rows = records_of s.kind s.sources (tree_of s.tree) (s.now + 1) ops

  accepted : AllAccepted s.sources (tree_of s.tree) ops
  accepted = commit-accepted s ops can

  end_of_step : IsCommitted s ops (after_commit s ops)
  end_of_step = committed s ops can.some accepted

  sound_batch : IsSoundBatch true ops rows
  sound_batch = record {
    some = can.some;
    few = can.few;
    ops = sound_ops ops (accepted-targets s.sources (tree_of s.tree) ops legal.tree legal.sources can.written accepted);
    written = can.written;
    records = writable s.now (after_commit s ops).now rows end_of_step.next.sources end_of_step.next.between;
    rise = end_of_step.next.rise;
    counted = omega (arith, commit_few ops rows, made.small);
    within = within-passed s.sources (tree_of s.tree) (s.now + 1) ops legal.tree legal.sources can.written accepted s.kind;
  }

  -- the entry of a step may be written
  pub step-sound : (r : Stamp) → IsSoundEntry (frame.Stamped r x.ops x.rows)
  step-sound r = rw (made.held, made.rows) sound_batch

-- ---- what is written

module _ (r : Stamp) (ops : List Op) (rs : List Record) where
  -- it means that the operations are committed
  step_meant : (w : WrittenEntry) → IsEntry (frame.Stamped r ops rs) w → entry_meant w ≡ history.commit r ops
  step_meant (start k u) e = absurd e
  step_meant (load m u) e = absurd e
  step_meant (commit b) e = absurd e
  step_meant (stamped s b) e = ap (λ (t : Stamp). history.commit t (ops_in b)) e.0 ∙ ap (history.commit r) e.1.ops

  step_allowed : (w : WrittenEntry) → IsEntry (frame.Stamped r ops rs) w → IsOfVersion 2 w
  step_allowed (start k u) e = absurd e
  step_allowed (load m u) e = absurd e
  step_allowed (commit b) e = absurd e
  step_allowed (stamped s b) e = refl

  step_follows : (s : State) (w : WrittenEntry) → IsEntry (frame.Stamped r ops rs) w → CanCommit s ops → HasRecords true s (after_commit s ops) rs → CanStand true (Some s) (an_entry w)
  step_follows s (start k u) e can records = absurd e
  step_follows s (load m u) e can records = absurd e
  step_follows s (commit b) e can records = absurd e
  step_follows s (stamped t b) e can records = (
    subst (CanCommit s) (sym e.1.ops) can,
    subst (λ (os : List Op). HasRecords true s (after_commit s os) b.records) (sym e.1.ops) (subst (HasRecords true s (after_commit s ops)) (sym e.1.records) records),
  )

  -- it has as many bytes as are counted for it
  step_length : (body : List ℕ) (w : WrittenEntry) → IsEntry (frame.Stamped r ops rs) w → Reads entry_format body w [] → length body ≡ stamped_size r ops rs
  step_length body (start k u) e read = absurd e
  step_length body (load m u) e read = absurd e
  step_length body (commit b) e read = absurd e
  step_length body (stamped s b) e read =
      ap length (read.is ∙ append-nil (written_entry (stamped s b)))
      ∙ stamped-measured s b read.fit
      ∙ ap (λ (t : Stamp). stamped_size t (ops_in b) b.records) e.0
      ∙ ap (λ (os : List Op). stamped_size r os b.records) e.1.ops
      ∙ ap (stamped_size r ops) e.1.records

-- ---- what it leads to

module _ {R : Type 0} (view : R → Tree) (s : State) (r : Stamp) (ops : List Op) (x : Step R) (can : CanCommit s ops) (made : IsStep view s.kind s.sources (tree_of s.tree) (s.now + 1) ops BODY_MAX x) where
  abbrev made_rows : List Record
  made_rows = records_of s.kind s.sources (tree_of s.tree) (s.now + 1) ops

  end : IsCommitted s ops (after_commit s ops)
  end = committed s ops can.some (commit-accepted s ops can)

  -- its entry may follow a history that led to the state
  pub step-next : (h : List Entry) (body : List ℕ) (w : WrittenEntry) → LeadsTo h s → IsEntry (frame.Stamped r x.ops x.rows) w → Reads entry_format body w [] → IsNext 2 h (history.commit r ops) body
  step-next h body w led e read =
      let plain : IsEntry (frame.Stamped r ops made_rows) w = subst (λ (os : List Op). IsEntry (frame.Stamped r os made_rows) w) made.held (subst (λ (rs : List Record). IsEntry (frame.Stamped r x.ops rs) w) made.rows e) in
      let records : HasRecords true s (after_commit s ops) made_rows = record { tids = tids_between s.now (after_commit s ops).now made_rows end.next.between; all = λ asked. end.rows } in
      record {
        written = w;
        read = read;
        allowed = step_allowed r ops made_rows w plain;
        can = subst (λ (o : Option State). CanStand true o (an_entry w)) (sym led.replayed) (step_follows r ops made_rows s w plain can records);
        means = step_meant r ops made_rows w plain;
      }

  -- it has as many bytes as are counted for the commit
  pub step-size : (body : List ℕ) (w : WrittenEntry) → IsEntry (frame.Stamped r x.ops x.rows) w → Reads entry_format body w [] → length body ≡ commit_size s r ops
  step-size body w e read =
      step_length r x.ops x.rows body w e read
      ∙ ap (λ (os : List Op). stamped_size r os x.rows) made.held
      ∙ ap (stamped_size r ops) made.rows

  -- a history that led to the state leads, with the commit, to that after it
  pub step-leads : (h : List Entry) → LeadsTo h s → LeadsTo (h ++ history.commit r ops ∷ []) (after_commit s ops)
  step-leads h led = record {
    legal = legal-snoc h (history.commit r ops) led.legal (subst (λ (o : Option State). CanFollow o (history.commit r ops)) (sym led.replayed) can);
    replayed = replay-snoc h (history.commit r ops) ∙ ap (λ (o : Option State). then_entry o (history.commit r ops)) led.replayed;
  }

  module _ {S : Type 0} (source_view : S → Tree) (c : Committed R S) (z : KeepsState view source_view c s) where
    -- the records may be kept
    pub step-few : (c.store.rows.upto ≤ TIDS_MAX) × (x.tids ≤ OPS_MAX)
    step-few = (omega (arith, z.upto, z.few), omega (arith, made.tids, end.few, can.few))

    step_tids : c.store.rows.upto + x.tids ≡ (after_commit s ops).now
    step_tids = omega (arith, z.upto, made.tids, end.now)

    pub records-next : AreNext c.store.rows.upto (c.store.rows.upto + x.tids) x.rows
    records-next =
        subst (λ (n : ℕ). AreNext c.store.rows.upto n x.rows) (sym step_tids)
        (subst (λ (n : ℕ). AreNext n (after_commit s ops).now x.rows) (sym z.upto)
        (subst (AreNext s.now (after_commit s ops).now) (sym made.rows) end.next))

    module _ (kept m : Committed R S) (k : HasKept c kept x.tids x.rows) (store : m.store ≡ kept.store) where
      -- the last Tid is that of its last step
      pub kept-tids : m.store.rows.upto ≡ s.now + length (steps_of s.kind ops)
      kept-tids = omega (arith, ap (λ s. s.rows.upto) store, k.upto, z.upto, made.tids)

      -- with its tree in place, the state after the commit is kept
      pub keeps-stepped : m.tree ≡ x.tree → m.sources ≡ kept.sources → m.commits ≡ kept.commits → KeepsState view source_view m (after_commit s ops)
      keeps-stepped tree sources counted = record {
        kind = ap (λ s. s.kind) store ∙ k.kind ∙ z.kind ∙ sym end.kind;
        sources = ap (sources_in source_view) (sources ∙ k.sources) ∙ z.sources ∙ sym end.sources;
        tree = ap view tree ∙ made.tree ∙ sym end.tree;
        upto = ap (λ s. s.rows.upto) store ∙ k.upto ∙ step_tids;
        commits = counted ∙ k.commits ∙ ap (λ (n : ℕ). n + 1) z.commits ∙ sym end.commits;
        tids = omega (arith, end.now, end.commits, end.some, z.tids);
        few = omega (arith, k.few, k.upto, step_tids);
        sound = sound-commit s ops z.sound can;
      }

      -- and its rows, where those before were
      pub rows-stepped : HasRows c s → HasRows m (after_commit s ops)
      rows-stepped has = ap (λ s. s.rows.list) store ∙ k.rows ∙ ap (λ (rs : List Record). rs ++ x.rows) has ∙ ap (λ (rs : List Record). s.rows ++ rs) made.rows ∙ sym end.rows
