-- Operations one by one and as one step: what is accepted, and where it leads.
use Rattle.std.specs.Prelude.{ℕ, ◌+◌, ◌≡◌, true, List, [], ◌∷◌, ◌++◌, length, fold, refl}
use Rattle.std.proofs.Common.{sym, ap, subst, ◌∙◌, arith, append_assoc, append-nil}
use Rattle.std.proofs.lemmas.List.Sums.{fold-append}
use Rattle.std.specs.declared.option.Option.TheVariants.{None}
use Rattle.cp_model.specs.declared.kind.Kind.{Kind}
use Rattle.cp_model.specs.declared.kind.Kind.TheVariants as kind
use Rattle.cp_model.specs.declared.op.Op.{Op}
use Rattle.cp_model.specs.declared.record.Record.{Record}
use Rattle.cp_model.specs.Tree.{Tree, Source, IsTree, refusal, tree_after}
use Rattle.cp_model.specs.Step.{Working, contents, open_tree, apply_op, done, then_op, step, is_done}
use Rattle.cp_model.specs.Past.{tree_of}
use Rattle.cp_model.specs.History.{IsWritten, AreWritten, State, with_tid, rows_of, each_alone, after_settling, after_outcome, after_step}
use Rattle.cp_model.proofs.Contents.{contents-applied, contents-opened}
use Rattle.cp_model.proofs.Folds.{then-accepted}
use Rattle.cp_model.specs.Laws.{AreTrees}
use Rattle.cp_model.proofs.Kept.{tree-changed}
use Rattle.cp_model.proofs.Alone.{step-alone, contents-alone, after-settled}
use Rattle.cp_operation.specs.Passed.{Stage, next_stage, stage_after, AllAccepted}

-- one step more changes the tree
pub pass-tree : (k : Kind) (ss : List Source) (x : Stage) (op : Op) → (next_stage k ss x op).tree ≡ tree_after ss x.tree op
unfolding next_stage
pass-tree k ss x op = refl

-- ---- as one step

accepted_from : (k : Kind) (ss : List Source) (x : Stage) (j : ℕ) (w : Working) (ops : List Op) → x.tree ≡ contents w → AllAccepted ss x.tree ops →
    (v : Working) × (fold (then_op ss) (done j w) ops ≡ done (j + length ops) v) × (contents v ≡ (fold (next_stage k ss) x ops).tree)
unfolding next_stage
accepted_from k ss x j w [] e a = (w, ap (λ n. done n w) (omega arith), sym e)
accepted_from k ss x j w (op ∷ ops) e a =
    let more : tree_after ss x.tree op ≡ contents (apply_op ss w op) = ap (λ u. tree_after ss u op) e ∙ sym (contents-applied ss w op) in
    let rest = accepted_from k ss (next_stage k ss x op) (j + 1) (apply_op ss w op) ops more a.1 in
    let n : refusal ss (contents w) op ≡ None = ap (λ u. refusal ss u op) (sym e) ∙ a.0 in
    (rest.0, ap (λ o. fold (then_op ss) o ops) (then-accepted ss op j w n) ∙ rest.1 ∙ ap (λ n. done n (rest.0)) (omega arith), rest.2)

-- operations that are accepted one by one are done as one step, with the same contents
pub accepted-step : (k : Kind) (ss : List Source) (t : Tree) (n : ℕ) (ops : List Op) → AllAccepted ss t ops → (w : Working) × (step t ss ops ≡ done (length ops) w) × (contents w ≡ (stage_after k ss t n ops).tree)
unfolding step stage_after
accepted-step k ss t n ops a =
    let x = accepted_from k ss (record { tree = t; next = n; records = [] }) 0 (open_tree t) ops (sym (contents-opened t)) a in
    (x.0, x.1 ∙ ap (λ n. done n (x.0)) (omega arith), x.2)

-- operations that are accepted one by one are done as one step
pub accepted-done : (ss : List Source) (t : Tree) (ops : List Op) → AllAccepted ss t ops → is_done (step t ss ops) ≡ true
accepted-done ss t ops a = ap is_done (accepted-step kind.N ss t 0 ops a).1

-- ---- one operation more

-- one operation more passes behind the others
pub passed-snoc : (k : Kind) (ss : List Source) (t : Tree) (n : ℕ) (ops : List Op) (op : Op) → stage_after k ss t n (ops ++ op ∷ []) ≡ next_stage k ss (stage_after k ss t n ops) op
unfolding stage_after
passed-snoc k ss t n ops op = fold-append (next_stage k ss) (record { tree = t; next = n; records = [] }) ops (op ∷ [])

next_from : (k : Kind) (ss : List Source) (x : Stage) (ops : List Op) → (fold (next_stage k ss) x ops).next ≡ x.next + length ops
unfolding next_stage
next_from k ss x [] = omega arith
next_from k ss x (op ∷ ops) = omega (arith, next_from k ss (next_stage k ss x op) ops)

-- each operation takes a Tid
pub passed-next : (k : Kind) (ss : List Source) (t : Tree) (n : ℕ) (ops : List Op) → (stage_after k ss t n ops).next ≡ n + length ops
unfolding stage_after
passed-next k ss t n ops = next_from k ss (record { tree = t; next = n; records = [] }) ops

snoc_from : (k : Kind) (ss : List Source) (x : Stage) (ops : List Op) (op : Op) → AllAccepted ss x.tree ops → refusal ss (fold (next_stage k ss) x ops).tree op ≡ None → AllAccepted ss x.tree (ops ++ op ∷ [])
unfolding next_stage
snoc_from k ss x [] op a n = (n, tt)
snoc_from k ss x (o ∷ ops) op a n = (a.0, snoc_from k ss (next_stage k ss x o) ops op a.1 n)

-- an operation that is accepted behind accepted ones
pub accepted-snoc : (k : Kind) (ss : List Source) (t : Tree) (n : ℕ) (ops : List Op) (op : Op) → AllAccepted ss t ops → refusal ss (stage_after k ss t n ops).tree op ≡ None → AllAccepted ss t (ops ++ op ∷ [])
unfolding stage_after
accepted-snoc k ss t n ops op a h = snoc_from k ss (record { tree = t; next = n; records = [] }) ops op a h

-- an operation that can be written behind others that can
pub written-snoc : (ops : List Op) (op : Op) → AreWritten ops → IsWritten op → AreWritten (ops ++ op ∷ [])
written-snoc [] op a w = (w, tt)
written-snoc (o ∷ ops) op a w = (a.0, written-snoc ops op a.1 w)

tree_from : (k : Kind) (ss : List Source) (x : Stage) (ops : List Op) → IsTree x.tree → AreTrees ss → AreWritten ops → AllAccepted ss x.tree ops → IsTree (fold (next_stage k ss) x ops).tree
unfolding next_stage
tree_from k ss x [] h r w a = h
tree_from k ss x (op ∷ ops) h r w a = tree_from k ss (next_stage k ss x op) ops (tree-changed ss x.tree op h r w.0 a.0) r w.1 a.1

-- accepted operations lead from a tree to a tree
pub tree-passed : (k : Kind) (ss : List Source) (t : Tree) (n : ℕ) (ops : List Op) → IsTree t → AreTrees ss → AreWritten ops → AllAccepted ss t ops → IsTree (stage_after k ss t n ops).tree
unfolding stage_after
tree-passed k ss t n ops h r w a = tree_from k ss (record { tree = t; next = n; records = [] }) ops h r w a

-- ---- each a step of a history

-- a history of the kind k with these sources has come, behind the records rs, as far as x
pub record IsAt (k : Kind) (ss : List Source) (rs : List Record) (x : Stage) (s : State) : Type 0 where
  pub kind : s.kind ≡ k
  pub sources : s.sources ≡ ss
  pub tree : tree_of s.tree ≡ x.tree
  pub rows : s.rows ≡ rs ++ x.records
  pub next : x.next ≡ s.now + 1

settled-at : (k : Kind) (ss : List Source) (rs : List Record) (x : Stage) (s : State) (op : Op) → IsAt k ss rs x s → IsAt k ss rs (next_stage k ss x op) (after_settling s (apply_op s.sources (open_tree (tree_of s.tree)) op))
unfolding next_stage after_settling
settled-at k ss rs x s op h = record {
  kind = h.kind;
  sources = h.sources;
  tree = (after-settled s (apply_op s.sources (open_tree (tree_of s.tree)) op)).tree ∙ contents-alone s.sources (tree_of s.tree) op ∙ ap (λ os. tree_after os (tree_of s.tree) op) h.sources ∙ ap (λ u. tree_after ss u op) h.tree;
  rows =
      ap (λ qs. qs ++ with_tid (s.now + 1) (rows_of s.kind (tree_of s.tree) (apply_op s.sources (open_tree (tree_of s.tree)) op))) h.rows
      ∙ append_assoc rs x.records (with_tid (s.now + 1) (rows_of s.kind (tree_of s.tree) (apply_op s.sources (open_tree (tree_of s.tree)) op)))
      ∙ ap (λ d. rs ++ (x.records ++ with_tid (s.now + 1) (rows_of d (tree_of s.tree) (apply_op s.sources (open_tree (tree_of s.tree)) op)))) h.kind
      ∙ ap (λ os. rs ++ (x.records ++ with_tid (s.now + 1) (rows_of k (tree_of s.tree) (apply_op os (open_tree (tree_of s.tree)) op)))) h.sources
      ∙ ap (λ u. rs ++ (x.records ++ with_tid (s.now + 1) (rows_of k u (apply_op ss (open_tree u) op)))) h.tree
      ∙ ap (λ n. rs ++ (x.records ++ with_tid n (rows_of k x.tree (apply_op ss (open_tree x.tree) op)))) (sym h.next);
  next = omega (arith, h.next);
}

-- a step of one accepted operation is one operation more
pub step-at : (k : Kind) (ss : List Source) (rs : List Record) (x : Stage) (s : State) (op : Op) → IsAt k ss rs x s → refusal ss x.tree op ≡ None → IsAt k ss rs (next_stage k ss x op) (after_step s (op ∷ []))
unfolding after_step
step-at k ss rs x s op h n =
    let r : refusal s.sources (tree_of s.tree) op ≡ None = ap (λ os. refusal os (tree_of s.tree) op) h.sources ∙ ap (λ u. refusal ss u op) h.tree ∙ n in
    subst (λ o. IsAt k ss rs (next_stage k ss x op) (after_outcome s o)) (sym (step-alone s.sources (tree_of s.tree) op r)) (settled-at k ss rs x s op h)

steps_at : (k : Kind) (ss : List Source) (rs : List Record) (x : Stage) (s : State) (ops : List Op) → IsAt k ss rs x s → AllAccepted ss x.tree ops → IsAt k ss rs (fold (next_stage k ss) x ops) (fold after_step s (each_alone ops))
steps_at k ss rs x s [] h a = h
steps_at k ss rs x s (op ∷ ops) h a = steps_at k ss rs (next_stage k ss x op) (after_step s (op ∷ [])) ops (step-at k ss rs x s op h a.0) (subst (λ u. AllAccepted ss u ops) (sym (pass-tree k ss x op)) a.1)

module _ (k : Kind) (ss : List Source) (s : State) (ops : List Op) (e : s.kind ≡ k) (o : s.sources ≡ ss) (a : AllAccepted ss (tree_of s.tree) ops) where
  -- accepted operations, each a step of its own, lead where they pass to, and their records are added
  pub passed-after : IsAt k ss s.rows (stage_after k ss (tree_of s.tree) (s.now + 1) ops) (fold after_step s (each_alone ops))
  unfolding stage_after
  passed-after =
      steps_at k ss s.rows (record { tree = tree_of s.tree; next = s.now + 1; records = [] }) s ops (record { kind = e; sources = o; tree = refl; rows = sym (append-nil s.rows); next = refl }) a

  -- each of them takes a Tid
  pub now-after : (fold after_step s (each_alone ops)).now ≡ s.now + length ops
  now-after = omega (arith, passed-after.next, passed-next k ss (tree_of s.tree) (s.now + 1) ops)
