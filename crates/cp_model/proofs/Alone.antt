-- A transaction as one step and as a step for each operation: both end with the same contents.
use Rattle.std.specs.Prelude.{ℕ, ◌+◌, ◌≡◌, true, List, [], ◌∷◌, length, fold, refl, ⊤}
use Rattle.std.proofs.Common.{sym, ap, subst, ◌∙◌, arith}
use Rattle.std.proofs.lemmas.List.{length-map}
use Rattle.std.specs.declared.option.Option.TheVariants.{None}
use Rattle.cp_model.specs.declared.kind.Kind.{Kind}
use Rattle.cp_model.specs.declared.kind.Kind.TheVariants as kind
use Rattle.cp_model.specs.declared.op.Op.{Op}
use Rattle.cp_model.specs.Tree.{Tree, Source, refusal, tree_after}
use Rattle.cp_model.specs.Step.{Working, contents, open_tree, apply_op, done, then_op, step, is_done}
use Rattle.cp_model.specs.Past.{tree_of}
use Rattle.cp_model.specs.History.{State, each_alone, steps_of, after_settling, after_outcome, after_step}
use Rattle.cp_model.proofs.Contents.{contents-applied, contents-opened, tree_of-settle}
use Rattle.cp_model.proofs.Folds.{first-accepted, then-accepted}

-- n steps after s the tree is t
pub record IsAfter (s : State) (n : ℕ) (t : Tree) (z : State) : Type 0 where
  pub tree : tree_of z.tree ≡ t
  pub now : z.now ≡ s.now + n
  pub sources : z.sources ≡ s.sources
  pub kind : z.kind ≡ s.kind
  pub commits : z.commits ≡ s.commits

-- each of the steps is done after those before it
abbrev pub AreDone : State → List (List Op) → Type 0
AreDone s [] = ⊤
AreDone s (ops ∷ rest) = (is_done (step (tree_of s.tree) s.sources ops) ≡ true) × AreDone (after_step s ops) rest

-- a settled step is one step more
pub after-settled : (s : State) (w : Working) → IsAfter s 1 (contents w) (after_settling s w)
unfolding after_settling
after-settled s w = record { tree = tree_of-settle (s.now + 1) s.tree w; now = refl; sources = refl; kind = refl; commits = refl }

-- after a step that is done the tree has the contents with which it ended
pub after-step : (s : State) (ops : List Op) (k : ℕ) (w : Working) → step (tree_of s.tree) s.sources ops ≡ done k w → IsAfter s 1 (contents w) (after_step s ops)
unfolding after_step
after-step s ops k w e = subst (λ o. IsAfter s 1 (contents w) (after_outcome s o)) (sym e) (after-settled s w)

-- an operation that isn't refused is done as a step of its own
pub step-alone : (ss : List Source) (t : Tree) (op : Op) → refusal ss t op ≡ None → step t ss (op ∷ []) ≡ done 1 (apply_op ss (open_tree t) op)
unfolding step
step-alone ss t op n = then-accepted ss op 0 (open_tree t) (ap (λ u. refusal ss u op) (contents-opened t) ∙ n)

-- a step of one operation changes the tree by it
pub contents-alone : (ss : List Source) (t : Tree) (op : Op) → contents (apply_op ss (open_tree t) op) ≡ tree_after ss t op
contents-alone ss t op = contents-applied ss (open_tree t) op ∙ ap (λ u. tree_after ss u op) (contents-opened t)

-- after a step of one operation that isn't refused the tree is changed by it
pub after-alone : (s : State) (op : Op) → refusal s.sources (tree_of s.tree) op ≡ None → IsAfter s 1 (tree_after s.sources (tree_of s.tree) op) (after_step s (op ∷ []))
after-alone s op n = subst (λ t. IsAfter s 1 t (after_step s (op ∷ []))) (contents-alone s.sources (tree_of s.tree) op) (after-step s (op ∷ []) 1 (apply_op s.sources (open_tree (tree_of s.tree)) op) (step-alone s.sources (tree_of s.tree) op n))

-- steps after steps add up
pub after-after : (s y z : State) (m n : ℕ) (t u : Tree) → IsAfter s m t y → IsAfter y n u z → IsAfter s (m + n) u z
after-after s y z m n t u h k = record { tree = k.tree; now = omega (arith, h.now, k.now); sources = k.sources ∙ h.sources; kind = k.kind ∙ h.kind; commits = k.commits ∙ h.commits }

-- where the operations are done from some contents, they are done one by one from a state with these contents
pub done-alone : (ss : List Source) (ops : List Op) (s : State) (j : ℕ) (w : Working) (k : ℕ) (v : Working) → s.sources ≡ ss → tree_of s.tree ≡ contents w →
    fold (then_op ss) (done j w) ops ≡ done k v → IsAfter s (length ops) (contents v) (fold after_step s (each_alone ops)) × AreDone s (each_alone ops)
done-alone ss [] s j w k v o t e = (record { tree = t ∙ ends w v e; now = omega arith; sources = refl; kind = refl; commits = refl }, tt)
  where
    ends : (w v : Working) → done j w ≡ done k v → contents w ≡ contents v
    ends w v e = let d : w ≡ v = cc in ap contents d
done-alone ss (op ∷ ops) s j w k v o t e =
    let x = first-accepted ss op ops j w k v e in
    let n : refusal s.sources (tree_of s.tree) op ≡ None = ap (λ r. refusal r (tree_of s.tree) op) o ∙ ap (λ u. refusal ss u op) t ∙ x.0 in
    let one = after-alone s op n in
    let same_contents : tree_of (after_step s (op ∷ [])).tree ≡ contents (apply_op ss w op) =
    one.tree ∙ ap (λ r. tree_after r (tree_of s.tree) op) o ∙ ap (λ u. tree_after ss u op) t ∙ sym (contents-applied ss w op) in
    let rest = done-alone ss ops (after_step s (op ∷ [])) (j + 1) (apply_op ss w op) k v (one.sources ∙ o) same_contents x.1 in
    let all = after-after s (after_step s (op ∷ [])) (fold after_step (after_step s (op ∷ [])) (each_alone ops)) 1 (length ops) (tree_after s.sources (tree_of s.tree) op) (contents v) one rest.0 in
    let count : 1 + length ops ≡ length (op ∷ ops) = omega arith in
    (subst (λ n. IsAfter s n (contents v) (fold after_step (after_step s (op ∷ [])) (each_alone ops))) count all, (ap is_done (step-alone s.sources (tree_of s.tree) op n), rest.1))

module _ (s : State) (ops : List Op) (k : ℕ) (w : Working) (e : step (tree_of s.tree) s.sources ops ≡ done k w) where
  one_by_one : IsAfter s (length ops) (contents w) (fold after_step s (each_alone ops)) × AreDone s (each_alone ops)
  unfolding step
  one_by_one = done-alone s.sources ops s 0 (open_tree (tree_of s.tree)) k w refl (sym (contents-opened (tree_of s.tree))) e

  -- where a step is done, its operations one by one lead to the same contents
  pub after-each_alone : IsAfter s (length ops) (contents w) (fold after_step s (each_alone ops))
  after-each_alone = one_by_one.0

  -- where a step is done, its operations one by one are done
  pub done-each_alone : AreDone s (each_alone ops)
  done-each_alone = one_by_one.1

  -- in every kind the steps of what is done as one step lead to its contents
  pub after-steps_of : (d : Kind) → IsAfter s (length (steps_of d ops)) (contents w) (fold after_step s (steps_of d ops))
  after-steps_of kind.N = subst (λ n. IsAfter s n (contents w) (fold after_step s (each_alone ops))) (sym (length-map ops (λ op. op ∷ []))) after-each_alone
  after-steps_of kind.H = subst (λ n. IsAfter s n (contents w) (fold after_step s (each_alone ops))) (sym (length-map ops (λ op. op ∷ []))) after-each_alone
  after-steps_of kind.T = after-step s ops k w e
  after-steps_of kind.HT = after-step s ops k w e

  -- in every kind the steps of what is done as one step are done
  pub done-steps_of : (d : Kind) → AreDone s (steps_of d ops)
  done-steps_of kind.N = done-each_alone
  done-steps_of kind.H = done-each_alone
  done-steps_of kind.T = (ap is_done e, tt)
  done-steps_of kind.HT = (ap is_done e, tt)
