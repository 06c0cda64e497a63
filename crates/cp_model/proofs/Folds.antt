-- A step, operation by operation.
use Rattle.std.specs.Prelude.{ℕ, ◌+◌, ◌≡◌, true, List, [], ◌∷◌, fold, refl}
use Rattle.std.proofs.Common.{ap, subst}
use Rattle.std.specs.declared.option.Option.TheVariants.{None, Some}
use Rattle.cp_model.specs.declared.op.Op.{Op}
use Rattle.cp_model.specs.declared.refusal.Refusal.{Refusal}
use Rattle.cp_model.specs.Tree.{Tree, Source, refusal}
use Rattle.cp_model.specs.Step.{Working, contents, open_tree, apply_op, Outcome, done, refused, judge_op, then_op, step, is_done}
use Rattle.cp_model.specs.History.{IsWritten, AreWritten}

-- what is done has a number of operations and a working tree
pub done_is : (o : Outcome) → is_done o ≡ true → (k : ℕ) × (w : Working) × (o ≡ done k w)
done_is (done k w) e = (k, w, refl)
done_is (refused n r) e = absurd (cc)

module _ (ss : List Source) where
  -- after a refusal nothing more is done
  pub refused-fold : (ops : List Op) (n : ℕ) (r : Refusal) → fold (then_op ss) (refused n r) ops ≡ refused n r
  unfolding then_op
  refused-fold [] n r = refl
  refused-fold (op ∷ ops) n r = refused-fold ops n r

  -- where all is done the first operation isn't refused, and the others are done after it
  pub first-accepted : (op : Op) (ops : List Op) (j : ℕ) (w : Working) (k : ℕ) (v : Working) → fold (then_op ss) (done j w) (op ∷ ops) ≡ done k v →
      (refusal ss (contents w) op ≡ None) × (fold (then_op ss) (done (j + 1) (apply_op ss w op)) ops ≡ done k v)
  unfolding then_op
  first-accepted op ops j w k v e =
      elim (refusal ss (contents w) op) as (λ r. fold (then_op ss) (judge_op ss j w op r) ops ≡ done k v → (r ≡ None) × (fold (then_op ss) (done (j + 1) (apply_op ss w op)) ops ≡ done k v)) [
        | None ↦ λ e. (refl, e)
        | Some r ↦ λ e. let f = refused-fold ops (j + 1) r in absurd (cc)
      ] e

  -- an operation that isn't refused is applied
  pub then-accepted : (op : Op) (j : ℕ) (w : Working) → refusal ss (contents w) op ≡ None → then_op ss (done j w) op ≡ done (j + 1) (apply_op ss w op)
  unfolding then_op
  then-accepted op j w n = ap (judge_op ss j w op) n

  module _ (P : Working → Type 0) where
    -- what each accepted operation keeps, all of them keep
    pub fold-keeps : ((w : Working) (op : Op) → IsWritten op → refusal ss (contents w) op ≡ None → P w → P (apply_op ss w op)) →
        (ops : List Op) (j : ℕ) (w : Working) (k : ℕ) (v : Working) → AreWritten ops → P w → fold (then_op ss) (done j w) ops ≡ done k v → P v
    fold-keeps h [] j w k v a p e = same_end w v p e
      where
        same_end : (w v : Working) → P w → done j w ≡ done k v → P v
        same_end w v p e = let d : w ≡ v = cc in subst P d p
    fold-keeps h (op ∷ ops) j w k v a p e =
        let x = first-accepted op ops j w k v e in
        fold-keeps h ops (j + 1) (apply_op ss w op) k v a.1 (h w op a.0 x.0 p) x.1

    -- what each accepted operation keeps, holds at the end of a step where it holds at its start
    pub step-keeps : ((w : Working) (op : Op) → IsWritten op → refusal ss (contents w) op ≡ None → P w → P (apply_op ss w op)) →
        (t : Tree) (ops : List Op) (k : ℕ) (v : Working) → AreWritten ops → P (open_tree t) → step t ss ops ≡ done k v → P v
    unfolding step
    step-keeps h t ops k v a p e = fold-keeps h ops 0 (open_tree t) k v a p e
