-- What each call does to a transaction.
use Rattle.cp_model.specs.declared.limits.TheConstants.{ENTRY_MAX, OPS_MAX}
use Rattle.std.specs.Prelude.{ℕ, ◌+◌, ◌≤◌, ◌<◌, ◌≡◌, ◌^◌, List, [], ◌∷◌, ◌++◌, length}
use Rattle.std.proofs.Common.{sym, ap, subst, ◌∙◌, arith, length-append}
use Rattle.std.proofs.lemmas.List.Sums.{fold-append}
use Rattle.std.specs.declared.option.Option.TheVariants.{None}
use Rattle.cp_model.specs.Tree.{Tree, Source, IsTree, refusal, tree_after}
use Rattle.cp_model.specs.Laws.{AreSources, AreTrees, Sound}
use Rattle.cp_model.specs.Step.{Working, contents, open_tree, apply_op, done, then_op, step}
use Rattle.cp_model.specs.History.{IsWritten, AreWritten, rows_of, with_tid}
use Rattle.cp_model.specs.declared.kind.Kind.{Kind}
use Rattle.cp_model.specs.declared.kind.Kind.TheVariants as kind
use Rattle.cp_model.specs.declared.op.Op.{Op}
use Rattle.cp_model.specs.declared.origin.Origin.{Origin}
use Rattle.cp_model.specs.declared.origin.Origin.TheVariants.{New as new, Was as was}
use Rattle.cp_model.specs.declared.record.Record.{Record}
use Rattle.cp_model.proofs.Folds.{then-accepted}
use Rattle.cp_model.proofs.Histories.{trees-sources}
use Rattle.cp_model.proofs.Kept.{closed-step}
use Rattle.cp_model.proofs.Origins.{sound-step}
use Rattle.cp_record.specs.Bytes.{records_bytes}
use Rattle.cp_overlay.specs.Kept.{Kept}
use Rattle.cp_overlay.specs.Kept as overlay
use Rattle.cp_overlay.specs.Seen.{seen}
use Rattle.cp_operation.specs.Passed.{Stage, stage_after, next_stage, AllAccepted, outcome_records, records_of}
use Rattle.cp_operation.specs.RowsAlone.{rows_in}
use Rattle.cp_engine.proofs.StepRows.{rows-alone, reduced-alone}
use Rattle.cp_engine.proofs.KeptRecords.{held-kept, given-up-kept}
use Rattle.cp_operation.proofs.Linked.{passed-snoc, pass-tree, accepted-step, accepted-snoc, written-snoc, passed-next, tree-passed}
use Rattle.cp_engine.specs.Held.{AreKept, AreKeptBehind}
use Rattle.cp_engine.specs.Transactions.{Keeps, Adds, Packs, AreGivenUp, IsGoing}
use Rattle.cp_engine.specs.declared.kept.StepRecords.{StepRecords}
use Rattle.cp_engine.specs.declared.txn.Txn.{Txn}

-- the rows that a kind keeps of an operation are the operation's rows
rows-in : (k : Kind) (ss : List Source) (t : Tree) (op : Op) → AreTrees ss → IsTree t → IsWritten op → refusal ss t op ≡ None → rows_of k t (apply_op ss (open_tree t) op) ≡ rows_in k ss t op
rows-in kind.N ss t op r h w n = rows-alone ss t op h w n
rows-in kind.T ss t op r h w n = rows-alone ss t op h w n
rows-in kind.H ss t op r h w n = reduced-alone ss t op r h w n
rows-in kind.HT ss t op r h w n = reduced-alone ss t op r h w n

-- the records of one accepted operation more
pub pass-records : (k : Kind) (ss : List Source) (x : Stage) (op : Op) → AreTrees ss → IsTree x.tree → IsWritten op → refusal ss x.tree op ≡ None → (next_stage k ss x op).records ≡ x.records ++ with_tid x.next (rows_in k ss x.tree op)
unfolding next_stage
pass-records k ss x op r h w n = ap (λ rows. x.records ++ with_tid x.next rows) (rows-in k ss x.tree op r h w n)

-- ---- what is kept

-- after accepted operations the working tree is one that an overlay may stand for
working-done : (ss : List Source) (t : Tree) (ops : List Op) (k : ℕ) (w : Working) → IsTree t → AreSources ss → AreWritten ops → step t ss ops ≡ done k w → overlay.IsWorking w
working-done ss t ops k w h s a e = record {
  closed = closed-step t ss ops k w h (trees-sources ss s) a e;
  fits = λ p x i. fit x.origin (sound-step t ss ops k w h s e p x i);
}
  where
    fit : (o : Origin) → Sound ss t o → overlay.Fits o
    fit new s = tt
    fit (was q) s = s.fits

-- one accepted operation more is one more in the same step
step-snoc : (ss : List Source) (t : Tree) (ops : List Op) (op : Op) (k : ℕ) (w : Working) → step t ss ops ≡ done k w → refusal ss (contents w) op ≡ None → step t ss (ops ++ op ∷ []) ≡ done (k + 1) (apply_op ss w op)
unfolding step
step-snoc ss t ops op k w e n =
    fold-append (then_op ss) (done 0 (open_tree t)) ops (op ∷ [])
    ∙ ap (λ o. then_op ss o op) e
    ∙ then-accepted ss op k w n

same-end : (j k : ℕ) (v w : Working) → done j v ≡ done k w → v ≡ w
same-end j k v w e = cc

-- an overlay that stands for a tree before any operation stands where none is done
pub stands-begun : (o : Kept) (ss : List Source) (t : Tree) → ((t : Tree) → overlay.Stands o t (open_tree t)) → (w : Working) → step t ss [] ≡ done 0 w → overlay.Stands o t w
unfolding step
stands-begun o ss t h w d = subst (overlay.Stands o t) (same-end 0 0 (open_tree t) w d) (h t)

-- nothing is kept where nothing is held
kept-begun : (k : Kind) (rows : StepRecords) (o : Kept) (ss : List Source) (t : Tree) (n : ℕ) → AreKept rows [] → ((t : Tree) → overlay.Stands o t (open_tree t)) → Keeps k rows o ss t n []
unfolding stage_after
kept-begun kind.N rows o ss t n e h = e
kept-begun kind.T rows o ss t n e h = stands-begun o ss t h
kept-begun kind.H rows o ss t n e h = e
kept-begun kind.HT rows o ss t n e h = stands-begun o ss t h

-- what holds of a transaction's tree and operations, where one operation more is accepted
pub record IsNext (k : Kind) (ss : List Source) (t : Tree) (n : ℕ) (ops : List Op) (op : Op) : Type 0 where
  pub start : IsTree t
  pub sources : AreSources ss
  pub written : AreWritten ops
  pub accepted : AllAccepted ss t ops
  pub more : IsWritten op
  pub accept : refusal ss (stage_after k ss t n ops).tree op ≡ None

-- one operation more in a step of its own
records-more : (k : Kind) (rows more : StepRecords) (ss : List Source) (t : Tree) (n : ℕ) (ops : List Op) (op : Op) → IsNext k ss t n ops op → AreKept rows (stage_after k ss t n ops).records →
    AreKeptBehind rows more (with_tid (stage_after k ss t n ops).next (rows_in k ss (stage_after k ss t n ops).tree op)) → AreKept more (stage_after k ss t n (ops ++ op ∷ [])).records
records-more k rows more ss t n ops op h e a =
    let p = stage_after k ss t n ops in
    subst (AreKept more)
    (sym (pass-records k ss p op (trees-sources ss h.sources) (tree-passed k ss t n ops h.start (trees-sources ss h.sources) h.written h.accepted) h.more h.accept)
    ∙ ap (λ q. q.records) (sym (passed-snoc k ss t n ops op)))
    (a p.records e)

-- one operation more in the open step
pub stands-more : (k : Kind) (o later : Kept) (ss : List Source) (t : Tree) (n : ℕ) (ops : List Op) (op : Op) → IsNext k ss t n ops op → ((w : Working) → step t ss ops ≡ done (length ops) w → overlay.Stands o t w) →
    overlay.Follows ss t o later op → (v : Working) → step t ss (ops ++ op ∷ []) ≡ done (length (ops ++ op ∷ [])) v → overlay.Stands later t v
stands-more k o later ss t n ops op h e a v d =
    let x = accepted-step k ss t n ops h.accepted in
    let none : refusal ss (contents x.0) op ≡ None = ap (λ u. refusal ss u op) x.2 ∙ h.accept in
    let one = step-snoc ss t ops op (length ops) x.0 x.1 none in
    subst (overlay.Stands later t) (same-end (length ops + 1) (length (ops ++ op ∷ [])) (apply_op ss x.0 op) v (sym one ∙ d))
    (a x.0 (working-done ss t ops (length ops) x.0 h.start h.sources h.written x.1) none (e x.0 x.1))

-- one operation more is kept
kept-more : (k : Kind) (rows more : StepRecords) (o later : Kept) (ss : List Source) (t : Tree) (n : ℕ) (ops : List Op) (op : Op) → IsNext k ss t n ops op → Keeps k rows o ss t n ops →
    Adds k rows o more later ss t (stage_after k ss t n ops).tree (stage_after k ss t n ops).next op → Keeps k more later ss t n (ops ++ op ∷ [])
kept-more kind.N rows more o later ss t n ops op h e a = records-more kind.N rows more ss t n ops op h e a
kept-more kind.T rows more o later ss t n ops op h e a = stands-more kind.T o later ss t n ops op h e a
kept-more kind.H rows more o later ss t n ops op h e a = records-more kind.H rows more ss t n ops op h e a
kept-more kind.HT rows more o later ss t n ops op h e a = stands-more kind.HT o later ss t n ops op h e a

-- what is packed of the open step are its records
pub packed-step : (k : Kind) (rs : List Record) (o : Kept) (ss : List Source) (t : Tree) (n : ℕ) (ops : List Op) → IsTree t → AreSources ss → AreWritten ops → AllAccepted ss t ops → ((w : Working) → step t ss ops ≡ done (length ops) w → overlay.Stands o t w) →
    ((w : Working) → overlay.IsWorking w → overlay.Stands o t w → contents w ≡ (stage_after k ss t n ops).tree → rs ≡ with_tid n (rows_of k t w)) → rs ≡ outcome_records k t n (step t ss ops)
packed-step k rs o ss t n ops h s w a e p =
    let x = accepted-step k ss t n ops a in
    p x.0 (working-done ss t ops (length ops) x.0 h s w x.1) (e x.0 x.1) x.2 ∙ ap (outcome_records k t n) (sym x.1)

-- what is packed are the records of the steps
packed-kept : (k : Kind) (rows : StepRecords) (rs : List Record) (o : Kept) (ss : List Source) (t : Tree) (n : ℕ) (ops : List Op) → IsTree t → AreSources ss → AreWritten ops → AllAccepted ss t ops → Keeps k rows o ss t n ops →
    Packs k rows o t (stage_after k ss t n ops).tree n rs → rs ≡ records_of k ss t n ops
packed-kept kind.N rows rs o ss t n ops h s w a e p = held-kept rows rs _ p e
packed-kept kind.T rows rs o ss t n ops h s w a e p = packed-step kind.T rs o ss t n ops h s w a e p
packed-kept kind.H rows rs o ss t n ops h s w a e p = held-kept rows rs _ p e
packed-kept kind.HT rows rs o ss t n ops h s w a e p = packed-step kind.HT rs o ss t n ops h s w a e p

-- where they were given up, the records of the steps take more bytes than an entry may have
large-kept : (k : Kind) (rows : StepRecords) (o : Kept) (ss : List Source) (t : Tree) (n : ℕ) (ops : List Op) → AreGivenUp k rows → Keeps k rows o ss t n ops → ENTRY_MAX < length (records_bytes (records_of k ss t n ops))
large-kept kind.N rows o ss t n ops g e = given-up-kept rows _ g e
large-kept kind.T rows o ss t n ops g e = absurd g
large-kept kind.H rows o ss t n ops g e = given-up-kept rows _ g e
large-kept kind.HT rows o ss t n ops g e = absurd g

-- ---- transactions

module _ {R : Type 0} (view : R → Tree) (ss : List Source) where
  -- a transaction that has just begun
  pub going-begun : (x : Txn R) (k : Kind) (t : Tree) (n : ℕ) → IsTree t → AreSources ss → n ≤ 2 ^ 63 → x.ops ≡ [] → x.first ≡ n → view x.tree ≡ t → x.kind ≡ k → view x.start ≡ t → AreKept x.rows [] → ((t : Tree) → overlay.Stands (seen x.overlay) t (open_tree t)) →
      x.failure ≡ None → IsGoing view x k ss t n []
  unfolding stage_after
  going-begun x k t n h s u o f e i a r v l = record {
    start = h;
    sources = s;
    first = u;
    few = omega arith;
    written = tt;
    accepted = tt;
    held = o;
    tid = f;
    tree = e;
    kind = i;
    begun = a;
    kept = kept-begun k x.rows (seen x.overlay) ss t n r v;
    failure = l;
  }

  -- one operation more is held
  pub going-more : (x y : Txn R) (k : Kind) (t : Tree) (n tid : ℕ) (ops : List Op) (op : Op) → IsWritten op → length x.ops < OPS_MAX → refusal ss (view x.tree) op ≡ None → tid ≡ x.first + length x.ops →
      y.ops ≡ x.ops ++ op ∷ [] → y.first ≡ x.first → y.kind ≡ x.kind → view y.start ≡ view x.start → view y.tree ≡ tree_after ss (view x.tree) op → Adds x.kind x.rows (seen x.overlay) y.rows (seen y.overlay) ss (view x.start) (view x.tree) tid op → y.failure ≡ x.failure →
      IsGoing view x k ss t n ops → IsGoing view y k ss t n (ops ++ op ∷ [])
  going-more x y k t n tid ops op w b a i o f j s e r l h =
      let p = stage_after k ss t n ops in
      let more : stage_after k ss t n (ops ++ op ∷ []) ≡ next_stage k ss p op = passed-snoc k ss t n ops op in
      let accept : refusal ss p.tree op ≡ None = ap (λ u. refusal ss u op) (sym h.tree) ∙ a in
      let number : tid ≡ p.next = omega (arith, i, passed-next k ss t n ops, h.tid, ap length h.held) in
      let adds : Adds k x.rows (seen x.overlay) y.rows (seen y.overlay) ss t p.tree p.next op =
      subst (λ d. Adds d x.rows (seen x.overlay) y.rows (seen y.overlay) ss t p.tree p.next op) h.kind
      (subst (λ a. Adds x.kind x.rows (seen x.overlay) y.rows (seen y.overlay) ss a p.tree p.next op) h.begun
      (subst (λ u. Adds x.kind x.rows (seen x.overlay) y.rows (seen y.overlay) ss (view x.start) u p.next op) h.tree
      (subst (λ m. Adds x.kind x.rows (seen x.overlay) y.rows (seen y.overlay) ss (view x.start) (view x.tree) m op) number r)))
      in
      record {
        start = h.start;
        sources = h.sources;
        first = h.first;
        few = omega (arith, b, length-append ops (op ∷ []), ap length h.held);
        written = written-snoc ops op h.written w;
        accepted = accepted-snoc k ss t n ops op h.accepted accept;
        held = o ∙ ap (λ os. os ++ op ∷ []) h.held;
        tid = f ∙ h.tid;
        tree = e ∙ ap (λ u. tree_after ss u op) h.tree ∙ sym (pass-tree k ss p op) ∙ ap (λ q. q.tree) (sym more);
        kind = j ∙ h.kind;
        begun = s ∙ h.begun;
        kept = kept-more k x.rows y.rows (seen x.overlay) (seen y.overlay) ss t n ops op (record { start = h.start; sources = h.sources; written = h.written; accepted = h.accepted; more = w; accept = accept }) h.kept adds;
        failure = l ∙ h.failure;
      }

  -- what keeps everything that counts goes on as it was
  pub going-same : (x y : Txn R) (k : Kind) (t : Tree) (n : ℕ) (ops : List Op) → y.ops ≡ x.ops → y.first ≡ x.first → y.kind ≡ x.kind → view y.start ≡ view x.start → view y.tree ≡ view x.tree → y.rows ≡ x.rows → seen y.overlay ≡ seen x.overlay → y.failure ≡ x.failure →
      IsGoing view x k ss t n ops → IsGoing view y k ss t n ops
  going-same x y k t n ops o f j s e r v l h = record {
    start = h.start;
    sources = h.sources;
    first = h.first;
    few = h.few;
    written = h.written;
    accepted = h.accepted;
    held = o ∙ h.held;
    tid = f ∙ h.tid;
    tree = e ∙ h.tree;
    kind = j ∙ h.kind;
    begun = s ∙ h.begun;
    kept = subst (λ z. Keeps k y.rows z ss t n ops) (sym v) (subst (λ z. Keeps k z (seen x.overlay) ss t n ops) (sym r) h.kept);
    failure = l ∙ h.failure;
  }

  -- what is packed are the records of its steps
  pub packed-going : (x : Txn R) (k : Kind) (t : Tree) (n tid : ℕ) (ops : List Op) (rs : List Record) → tid ≡ x.first + 0 → IsGoing view x k ss t n ops → Packs x.kind x.rows (seen x.overlay) (view x.start) (view x.tree) tid rs → rs ≡ records_of k ss t n ops
  packed-going x k t n tid ops rs i h r =
      let number : tid ≡ n = omega (arith, i, h.tid) in
      packed-kept k x.rows rs (seen x.overlay) ss t n ops h.start h.sources h.written h.accepted h.kept
      (subst (λ d. Packs d x.rows (seen x.overlay) t (stage_after k ss t n ops).tree n rs) h.kind
      (subst (λ a. Packs x.kind x.rows (seen x.overlay) a (stage_after k ss t n ops).tree n rs) h.begun
      (subst (λ u. Packs x.kind x.rows (seen x.overlay) (view x.start) u n rs) h.tree
      (subst (λ m. Packs x.kind x.rows (seen x.overlay) (view x.start) (view x.tree) m rs) number r))))

  -- where its records were given up, they take more bytes than an entry may have
  pub large-going : (x : Txn R) (k : Kind) (t : Tree) (n : ℕ) (ops : List Op) → IsGoing view x k ss t n ops → AreGivenUp x.kind x.rows → ENTRY_MAX < length (records_bytes (records_of k ss t n ops))
  large-going x k t n ops h g = large-kept k x.rows (seen x.overlay) ss t n ops (subst (λ d. AreGivenUp d x.rows) h.kind g) h.kept
