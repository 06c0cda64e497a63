-- What the commit of a step does to the state of a history, in every kind.
use Rattle.std.specs.Prelude.{ℕ, ◌+◌, ◌≤◌, ◌≡◌, List, [], ◌∷◌, ◌++◌, length, fold, refl}
use Rattle.std.proofs.Common.{sym, ap, subst, ◌∙◌, arith}
use Rattle.std.proofs.lemmas.List.{length-map}
use Rattle.cp_model.specs.Tree.{Tree, Source}
use Rattle.cp_model.specs.Step.{Working, done, step}
use Rattle.cp_model.specs.Past.{tree_of}
use Rattle.cp_model.specs.History.{State, steps_of, each_alone, rows_of, with_tid, after_settling, after_outcome, after_step}
use Rattle.cp_model.specs.declared.kind.Kind.{Kind}
use Rattle.cp_model.specs.declared.kind.Kind.TheVariants as kind
use Rattle.cp_model.specs.declared.op.Op.{Op}
use Rattle.cp_model.proofs.Alone.{after-step}
use Rattle.cp_model.specs.Changes.{AreNext}
use Rattle.cp_operation.specs.Passed.{stage_after, outcome_records, records_of, AllAccepted}
use Rattle.cp_engine.specs.Transactions.{IsStep}
use Rattle.cp_engine.specs.declared.txn.Step.{Step}
use Rattle.cp_operation.proofs.Linked.{accepted-step, passed-after, now-after}
use Rattle.cp_engine.proofs.Rising.{next-step, rising-passed}
use Rattle.cp_overlay.proofs.Marking.{sorted-rows_of}

-- the operations lead from the state s to z, with these records
pub record IsStepped (s z : State) (k : Kind) (ops : List Op) : Type 0 where
  pub kind : z.kind ≡ s.kind
  pub sources : z.sources ≡ s.sources
  pub tree : tree_of z.tree ≡ (stage_after k s.sources (tree_of s.tree) (s.now + 1) ops).tree
  pub rows : z.rows ≡ s.rows ++ records_of k s.sources (tree_of s.tree) (s.now + 1) ops
  pub now : z.now ≡ s.now + length (steps_of k ops)
  pub next : AreNext s.now (s.now + length (steps_of k ops)) (records_of k s.sources (tree_of s.tree) (s.now + 1) ops)
  pub few : length (steps_of k ops) ≤ length ops

settled_rows : (s : State) (w : Working) (k : Kind) → s.kind ≡ k → (after_settling s w).rows ≡ s.rows ++ with_tid (s.now + 1) (rows_of k (tree_of s.tree) w)
unfolding after_settling
settled_rows s w k e = ap (λ j. s.rows ++ with_tid (s.now + 1) (rows_of j (tree_of s.tree) w)) e

done_rows : (s : State) (ops : List Op) (n : ℕ) (w : Working) (k : Kind) → s.kind ≡ k → step (tree_of s.tree) s.sources ops ≡ done n w → (after_step s ops).rows ≡ s.rows ++ with_tid (s.now + 1) (rows_of k (tree_of s.tree) w)
unfolding after_step
done_rows s ops n w k e d = ap (λ o. (after_outcome s o).rows) d ∙ settled_rows s w k e

none_next : (m : ℕ) → AreNext m m []
none_next m = record { rise = refl; sources = refl; between = refl }

module _ (s : State) (ops : List Op) (some : 1 ≤ length ops) (a : AllAccepted s.sources (tree_of s.tree) ops) where
  abbrev t : Tree
  t = tree_of s.tree

  stepped_alone : (k : Kind) → s.kind ≡ k → (steps_of k ops ≡ each_alone ops) → records_of k s.sources t (s.now + 1) ops ≡ (stage_after k s.sources t (s.now + 1) ops).records → IsStepped s (fold after_step s (steps_of k ops)) k ops
  stepped_alone k e alone is =
      let at = passed-after k s.sources s ops e refl a in
      let count : length ops ≡ length (steps_of k ops) = sym (length-map ops (λ op. op ∷ [])) ∙ ap length (sym alone) in
      subst (λ steps. IsStepped s (fold after_step s steps) k ops) (sym alone) record {
        kind = at.kind ∙ sym e;
        sources = at.sources;
        tree = at.tree;
        rows = at.rows ∙ ap (λ rs. s.rows ++ rs) (sym is);
        now = now-after k s.sources s ops e refl a ∙ ap (λ n. s.now + n) count;
        next = subst (AreNext s.now (s.now + length (steps_of k ops))) (sym is) (subst (λ n. AreNext s.now (s.now + n) (stage_after k s.sources t (s.now + 1) ops).records) count (rising-passed k s.sources t s.now ops));
        few = omega (arith, count);
      }

  stepped_whole : (k : Kind) → s.kind ≡ k → steps_of k ops ≡ ops ∷ [] → records_of k s.sources t (s.now + 1) ops ≡ outcome_records k t (s.now + 1) (step t s.sources ops) → IsStepped s (fold after_step s (steps_of k ops)) k ops
  stepped_whole k e one rows =
      let x = accepted-step k s.sources t (s.now + 1) ops a in
      let w : Working = x.0 in
      let at = after-step s ops (length ops) w x.1 in
      let is : with_tid (s.now + 1) (rows_of k t w) ≡ records_of k s.sources t (s.now + 1) ops = ap (outcome_records k t (s.now + 1)) (sym x.1) ∙ sym rows in
      let count : 1 ≡ length (steps_of k ops) = ap length (sym one) in
      subst (λ steps. IsStepped s (fold after_step s steps) k ops) (sym one) record {
        kind = at.kind;
        sources = at.sources;
        tree = at.tree ∙ x.2;
        rows = done_rows s ops (length ops) w k e x.1 ∙ ap (λ rs. s.rows ++ rs) is;
        now = at.now ∙ ap (λ n. s.now + n) count;
        next = subst (AreNext s.now (s.now + length (steps_of k ops))) is (subst (λ n. AreNext s.now (s.now + n) (with_tid (s.now + 1) (rows_of k t w))) count (next-step s.now s.now [] (rows_of k t w) (omega arith) (none_next s.now) (sorted-rows_of k t w)));
        few = omega (arith, count, some);
      }

  -- the steps of accepted operations lead to where they pass, and their records come next
  pub stepped-in : (k : Kind) → s.kind ≡ k → IsStepped s (fold after_step s (steps_of k ops)) k ops
  stepped-in kind.N e = stepped_alone kind.N e refl refl
  stepped-in kind.T e = stepped_whole kind.T e refl refl
  stepped-in kind.H e = stepped_alone kind.H e refl refl
  stepped-in kind.HT e = stepped_whole kind.HT e refl refl

-- where the step is committed, with accepted operations, the state is the next one
pub record Commits {R : Type 0} (view : R → Tree) (s z : State) (x : Step R) (ops : List Op) : Type 0 where
  pub kind : z.kind ≡ s.kind
  pub sources : z.sources ≡ s.sources
  pub tree : tree_of z.tree ≡ view x.tree
  pub rows : z.rows ≡ s.rows ++ x.rows
  pub now : z.now ≡ s.now + x.tids
  pub next : AreNext s.now (s.now + x.tids) x.rows
  pub few : x.tids ≤ length ops

-- a step leads a state of its kind and its sources to the state after its steps
pub commits-step : {R : Type 0} (view : R → Tree) (s : State) (k : Kind) (ss : List Source) (ops : List Op) (limit : ℕ) (x : Step R) → s.kind ≡ k → s.sources ≡ ss → AllAccepted ss (tree_of s.tree) ops → IsStep view k ss (tree_of s.tree) (s.now + 1) ops limit x →
    Commits view s (fold after_step s (steps_of k ops)) x ops
commits-step view s k ss ops limit x e o a h =
    let t : Tree = tree_of s.tree in
    let i = stepped-in s ops h.some (subst (λ os. AllAccepted os t ops) (sym o) a) k e in
    let rows : records_of k s.sources t (s.now + 1) ops ≡ x.rows = ap (λ os. records_of k os t (s.now + 1) ops) o ∙ sym h.rows in
    let few = i.few in
    record {
      kind = i.kind;
      sources = i.sources;
      tree = i.tree ∙ ap (λ os. (stage_after k os t (s.now + 1) ops).tree) o ∙ sym h.tree;
      rows = i.rows ∙ ap (λ rs. s.rows ++ rs) rows;
      now = i.now ∙ ap (λ n. s.now + n) (sym h.tids);
      next = subst (λ n. AreNext s.now (s.now + n) x.rows) (sym h.tids) (subst (AreNext s.now (s.now + length (steps_of k ops))) rows i.next);
      few = omega (arith, few, h.tids);
    }
