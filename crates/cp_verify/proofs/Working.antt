-- The verdict on the records of a history, item by item.
use Rattle.std.specs.Prelude.{ℕ, ◌≡◌, ◌+◌, ◌++◌, true, false, List, [], ◌∷◌, fold, length, drop, refl}
use Rattle.std.proofs.Common.{sym, ap, subst, ◌∙◌, arith, append-nil, append_assoc, length-append}
use Rattle.std.specs.List.{flat_map}
use Rattle.std.specs.declared.option.Option.{Option}
use Rattle.std.specs.declared.option.Option.TheVariants.{None, Some}
use Rattle.std.proofs.lemmas.List.Concat.{flat_map-append}
use Rattle.std.proofs.Math.Seq.{drop-append_seam}
use Rattle.cp_model.specs.declared.op.Op.{Op}
use Rattle.cp_model.specs.declared.record.Record.{Record}
use Rattle.cp_model.specs.declared.record.Verdict.{Verdict}
use Rattle.cp_model.specs.declared.record.Verdict.TheVariants.{Agrees, Differs, TreeDiffers, NumberDiffers}
use Rattle.cp_model.specs.Past.{tree_of}
use Rattle.cp_model.specs.History.{State, after_commit}
use Rattle.cp_operation.specs.Passed.{records_of}
use Rattle.cp_engine.proofs.Committed.{committed, commit-accepted}
use Rattle.cp_frame.specs.Entries.{WrittenEntry, start, load, commit, stamped}
use Rattle.cp_frame.specs.Items.{Item, an_entry, a_checkpoint, AllStand, CanStand, after_item, entry_meant, records_in}
use Rattle.cp_frame.proofs.Standing.{replayed-items, stand-append}
use Rattle.cp_db.specs.Committed.{HoldsBatch}
use Rattle.cp_db.specs.Work.{BeginsWith, Beginning, CommitMoment, IsAtCommit, IsPassed}
use Rattle.cp_db.specs.declared.work.CommitAt.{CommitAt}
use Rattle.cp_db.specs.declared.work.Passed.{Passed}
use Rattle.cp_db.specs.declared.work.Passed.TheVariants.{Load, Checkpoint}
use Rattle.cp_db.proofs.TakingCommits.{can_when, commit_of, may_when}
use Rattle.cp_db.proofs.Walking.{no-record}
use Rattle.cp_verify.specs.Verify.{FirstDiffer, IsFirstWrong, records_made}
use Rattle.cp_verify.specs.Verdicts.{IsVerdict, Judges}

-- ---- the verdict on the records of one item more

-- what was wrong first is so among more items
pub wrong-more : (items : List Item) (number : ℕ) (a b : Option Record) (i : Item) → IsFirstWrong items number a b → IsFirstWrong (items ++ i ∷ []) number a b
wrong-more items number a b i w = record {
  before = w.before;
  entry = w.entry;
  after = w.after ++ i ∷ [];
  are = ap (λ (l : List Item). l ++ i ∷ []) w.are ∙ append_assoc w.before (an_entry w.entry ∷ w.after) (i ∷ []);
  numbered = w.numbered;
  right = w.right;
  state = w.state;
  replayed = w.replayed;
  differ = w.differ;
}

-- the records of an item stand after those of the others
records-more : (items : List Item) (i : Item) → flat_map records_in (items ++ i ∷ []) ≡ flat_map records_in items ++ records_in i
records-more items i = flat_map-append records_in items (i ∷ []) ∙ ap (λ (rs : List Record). flat_map records_in items ++ rs) (append-nil (records_in i))

-- an item that may stand with its records leaves the verdict, but for the number of records
pub verdict-right : (place : ℕ → ℕ) (items : List Item) (i : Item) (n : ℕ) → CanStand true (fold after_item None items) i → IsVerdict place items (Agrees n) → IsVerdict place (items ++ i ∷ []) (Agrees (n + length (records_in i)))
verdict-right place items i n can (all, count) = (
  stand-append true None items (i ∷ []) all (can, tt),
  ap (λ (m : ℕ). m + length (records_in i)) count ∙ sym (length-append (flat_map records_in items) (records_in i)) ∙ ap length (sym (records-more items i)),
)

-- one that has none leaves it whole
pub verdict-kept : (place : ℕ → ℕ) (items : List Item) (i : Item) (v : Verdict) → records_in i ≡ [] → CanStand true (fold after_item None items) i → IsVerdict place items v → IsVerdict place (items ++ i ∷ []) v
verdict-kept place items i (Agrees n) none can is =
    let right = verdict-right place items i n can is in
    let same : n + length (records_in i) ≡ n = ap (λ (rs : List Record). n + length rs) none ∙ omega arith in
    subst (λ (m : ℕ). IsVerdict place (items ++ i ∷ []) (Agrees m)) same right
verdict-kept place items i (Differs at a b) none can (number, wrong, is) = (number, wrong-more items number a b i wrong, is)
verdict-kept place items i (TreeDiffers at q) none can is = absurd is
verdict-kept place items i (NumberDiffers at m n) none can is = absurd is

-- the records that a commit makes are those that are expected of it
made-records : (s : State) (w : WrittenEntry) (os : List Op) (rs expected : List Record) → HoldsBatch w os rs → (after_commit s os).rows ≡ s.rows ++ expected → records_made s (entry_meant w) ≡ expected
made-records s w os rs expected holds rows =
    let meant = commit_of w os rs holds in
    ap (records_made s) meant.means ∙ ap (drop (length s.rows)) rows ∙ drop-append_seam s.rows expected

-- the verdict after a commit
pub verdict-judged : (place : ℕ → ℕ) (items : List Item) (s : State) (w : WrittenEntry) (os : List Op) (rs expected : List Record) (old new : Verdict) → HoldsBatch w os rs → fold after_item None items ≡ Some s
    → CanStand false (Some s) (an_entry w) → (after_commit s os).rows ≡ s.rows ++ expected → Judges (place (length items)) rs expected old new → IsVerdict place items old → IsVerdict place (items ++ an_entry w ∷ []) new
verdict-judged place items s w os rs expected (Agrees n) (Agrees m) holds is can rows (same, counted) old =
    let may = may_when false s w os rs holds can in
    let right = can_when true s w os rs holds (may.0, record { tids = may.1.tids; all = λ r. rows ∙ ap (λ (x : List Record). s.rows ++ x) (sym same) }) in
    let here = subst (λ (o : Option State). CanStand true o (an_entry w)) (sym is) right in
    let count : n + length (records_in (an_entry w)) ≡ m = ap (λ (x : List Record). n + length x) (commit_of w os rs holds).records ∙ sym counted in
    subst (λ (x : ℕ). IsVerdict place (items ++ an_entry w ∷ []) (Agrees x)) count (verdict-right place items (an_entry w) n here old)
verdict-judged place items s w os rs expected (Agrees n) (Differs at a b) holds is can rows (placed, differ) old = (
  length items,
  record {
    before = items;
    entry = w;
    after = [];
    are = refl;
    numbered = refl;
    right = old.0;
    state = s;
    replayed = replayed-items items ∙ is;
    differ =
        subst (λ (x : List Record). FirstDiffer x (records_made s (entry_meant w)) a b) (sym (commit_of w os rs holds).records)
        (subst (λ (x : List Record). FirstDiffer rs x a b) (sym (made-records s w os rs expected holds rows)) differ);
  },
  placed,
)
verdict-judged place items s w os rs expected (Agrees n) (TreeDiffers at q) holds is can rows judged old = absurd judged
verdict-judged place items s w os rs expected (Agrees n) (NumberDiffers at m o) holds is can rows judged old = absurd judged
verdict-judged place items s w os rs expected (Differs at a b) new holds is can rows judged (number, wrong, placed) =
    subst (IsVerdict place (items ++ an_entry w ∷ [])) (sym judged) (number, wrong-more items number a b (an_entry w) wrong, placed)
verdict-judged place items s w os rs expected (TreeDiffers at q) new holds is can rows judged old = absurd old
verdict-judged place items s w os rs expected (NumberDiffers at m n) new holds is can rows judged old = absurd old

-- ---- a verdict as the work of a walk

-- what a walk begins with has no records
pub verdict-begun : (first : Option State) (place : ℕ → ℕ) (items : List Item) (s : State) → BeginsWith first items s → first ≡ None → IsVerdict place items (Agrees 0)
verdict-begun None place [] s is none = absurd is
verdict-begun None place (an_entry (start k u) ∷ []) s is none = ((is.0, tt), refl)
verdict-begun None place (an_entry (load n u) ∷ []) s is none = absurd is.0.0
verdict-begun None place (an_entry (commit b) ∷ []) s is none = absurd is.0.0
verdict-begun None place (an_entry (stamped r b) ∷ []) s is none = absurd is.0.0
verdict-begun None place (a_checkpoint body ∷ []) s is none = ((is.0, tt), refl)
verdict-begun None place (i ∷ j ∷ items) s is none = absurd is
verdict-begun (Some z) place items s is none = absurd (cc none)

-- what it passes may stand with its records, since it has none
passed-right : (s : State) (p : Passed) (place : ℕ) (i : Item) → IsPassed p place i → CanStand false (Some s) i → CanStand true (Some s) i
passed-right s (Load at) place (an_entry (start k u)) is can = absurd is
passed-right s (Load at) place (an_entry (load n u)) is can = can
passed-right s (Load at) place (an_entry (commit b)) is can = absurd is
passed-right s (Load at) place (an_entry (stamped r b)) is can = absurd is
passed-right s (Load at) place (a_checkpoint body) is can = absurd is
passed-right s (Checkpoint at) place (an_entry w) is can = absurd is
passed-right s (Checkpoint at) place (a_checkpoint body) is can = can

-- so that the verdict stays
pub verdict-stays : (v : Verdict) (first : Option State) (place : ℕ → ℕ) (items : List Item) (s : State) (p : Passed) (i : Item) → (first ≡ None → IsVerdict place items v) → fold after_item first items ≡ Some s → CanStand false (Some s) i → IsPassed p (place (length items)) i
    → first ≡ None → IsVerdict place (items ++ i ∷ []) v
verdict-stays v first place items s p i found leads can is none =
    let led : fold after_item None items ≡ Some s = ap (λ (o : Option State). fold after_item o items) (sym none) ∙ leads in
    verdict-kept place items i v (no-record p (place (length items)) i is) (subst (λ (o : Option State). CanStand true o i) (sym led) (passed-right s p (place (length items)) i is can)) (found none)

-- after the records of a commit it is what they were judged
pub verdict-commit : (old new : Verdict) (begun : Beginning) (items : List Item) (s : State) (x : WrittenEntry) (c : CommitAt) (moment : CommitMoment) → (begun.first ≡ None → IsVerdict begun.place items old)
    → IsAtCommit begun items s x c moment → Judges c.at c.records (records_of moment.kind moment.sources moment.tree (moment.last + 1) c.ops) old new → begun.first ≡ None → IsVerdict begun.place (items ++ an_entry x ∷ []) new
verdict-commit old new begun items s x c moment found is judged none =
    let led : fold after_item None items ≡ Some s = ap (λ (o : Option State). fold after_item o items) (sym none) ∙ is.leads in
    let may = may_when false s x c.ops c.records is.holds is.can in
    let made = committed s c.ops may.0.some (commit-accepted s c.ops may.0) in
    let expected = records_of moment.kind moment.sources moment.tree (moment.last + 1) c.ops in
    let same : records_of s.kind s.sources (tree_of s.tree) (s.now + 1) c.ops ≡ expected = λ j. records_of (is.of_kind j) (is.sources j) (is.tree j) (is.after j + 1) c.ops in
    verdict-judged begun.place items s x c.ops c.records expected old new is.holds led is.can (made.rows ∙ ap (λ (rs : List Record). s.rows ++ rs) same)
    (subst (λ (k : ℕ). Judges k c.records expected old new) is.at judged) (found none)
