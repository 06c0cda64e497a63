-- Operations replayed one after another, as far as they are accepted.
use Rattle.std.specs.Prelude.{ℕ, zero, suc, ◌+◌, ◌≤◌, ◌<◌, ◌≡◌, true, List, [], ◌∷◌, ◌++◌, length, fold, get_or, take, is_some, if◌then◌else◌, refl}
use Rattle.std.proofs.Common.{sym, ap, subst, ◌∙◌, arith}
use Rattle.std.specs.declared.option.Option.TheVariants.{None}
use Rattle.cp_model.specs.Tree.{Tree, Source, refusal, tree_after}
use Rattle.cp_model.specs.History.{IsWritten, AreWritten}
use Rattle.cp_model.specs.declared.kind.Kind.{Kind}
use Rattle.cp_model.specs.declared.kind.Kind.TheVariants as kind
use Rattle.cp_model.specs.declared.op.Op.{Op}
use Rattle.cp_operation.specs.Passed.{Stage, next_stage, stage_after, tree_until, AllAccepted}
use Rattle.cp_operation.proofs.Linked.{pass-tree, passed-snoc, accepted-snoc}

-- so many of the operations are accepted from the tree t, and lead to the tree u
pub record HaveReplayed (ss : List Source) (t : Tree) (ops : List Op) (i : ℕ) (u : Tree) : Type 0 where
  pub accepted : AllAccepted ss t (take i ops)
  pub tree : (k : Kind) (n : ℕ) → u ≡ (stage_after k ss t n (take i ops)).tree

-- one of operations that can be written can be written
pub written-at : (ops : List Op) (i : ℕ) (op : Op) → i < length ops → op ≡ get_or ops i op → AreWritten ops → IsWritten op
written-at [] i op h e w = absurd (omega arith)
written-at (o ∷ ops) zero op h e w = subst IsWritten (sym e) w.0
written-at (o ∷ ops) (suc i) op h e w = written-at ops i op (omega arith) e w.1

take_next : (ops : List Op) (i : ℕ) (op : Op) → i < length ops → op ≡ get_or ops i op → take (suc i) ops ≡ take i ops ++ op ∷ []
take_next [] i op h e = absurd (omega arith)
take_next (o ∷ ops) zero op h e = ap (λ x. x ∷ []) (sym e)
take_next (o ∷ ops) (suc i) op h e = ap (λ os. o ∷ os) (take_next ops i op (omega arith) e)

-- one more of them
pub take_more : (ops : List Op) (i : ℕ) (op : Op) → i < length ops → op ≡ get_or ops i op → take (i + 1) ops ≡ take i ops ++ op ∷ []
take_more ops i op h e = let n : i + 1 ≡ suc i = omega arith in ap (λ n. take n ops) n ∙ take_next ops i op h e

accepted_at : (k : Kind) (ss : List Source) (x : Stage) (ops : List Op) (i : ℕ) (op : Op) → i < length ops → op ≡ get_or ops i op → AllAccepted ss x.tree ops → refusal ss (fold (next_stage k ss) x (take i ops)).tree op ≡ None
unfolding next_stage
accepted_at k ss x [] i op h e a = absurd (omega arith)
accepted_at k ss x (o ∷ ops) zero op h e a = ap (refusal ss x.tree) e ∙ a.0
accepted_at k ss x (o ∷ ops) (suc i) op h e a = accepted_at k ss (next_stage k ss x o) ops i op (omega arith) e a.1

-- all of them
take_all : (ops : List Op) (i : ℕ) → length ops ≤ i → take i ops ≡ ops
take_all [] zero h = refl
take_all [] (suc i) h = refl
take_all (o ∷ ops) zero h = absurd (omega arith)
take_all (o ∷ ops) (suc i) h = ap (λ os. o ∷ os) (take_all ops i (omega arith))

-- an operation that is accepted is passed
until_passed : (ss : List Source) (t : Tree) (op : Op) (ops : List Op) → refusal ss t op ≡ None → tree_until ss t (op ∷ ops) ≡ tree_until ss (tree_after ss t op) ops
until_passed ss t op ops n = ap (λ o. if is_some o then t else tree_until ss (tree_after ss t op) ops) n

until_at : (k : Kind) (ss : List Source) (x : Stage) (ops : List Op) (i : ℕ) (op : Op) → i < length ops → op ≡ get_or ops i op → AllAccepted ss x.tree (take i ops) → is_some (refusal ss (fold (next_stage k ss) x (take i ops)).tree op) ≡ true →
    (fold (next_stage k ss) x (take i ops)).tree ≡ tree_until ss x.tree ops
unfolding next_stage
until_at k ss x [] i op h e a r = absurd (omega arith)
until_at k ss x (o ∷ ops) zero op h e a r =
    sym (ap (λ b. if b then x.tree else tree_until ss (tree_after ss x.tree o) ops) (ap (λ p. is_some (refusal ss x.tree p)) (sym e) ∙ r))
until_at k ss x (o ∷ ops) (suc i) op h e a r = until_at k ss (next_stage k ss x o) ops i op (omega arith) e a.1 r ∙ sym (until_passed ss x.tree o ops a.0)

until_all : (k : Kind) (ss : List Source) (x : Stage) (ops : List Op) → AllAccepted ss x.tree ops → (fold (next_stage k ss) x ops).tree ≡ tree_until ss x.tree ops
unfolding next_stage
until_all k ss x [] a = refl
until_all k ss x (o ∷ ops) a = until_all k ss (next_stage k ss x o) ops a.1 ∙ sym (until_passed ss x.tree o ops a.0)

module _ (ss : List Source) (t : Tree) (ops : List Op) where
  -- none of them leads nowhere
  pub replayed-none : HaveReplayed ss t ops 0 t
  unfolding stage_after
  replayed-none = record { accepted = tt; tree = λ k n. refl }

  module _ (i : ℕ) (u : Tree) (h : HaveReplayed ss t ops i u) where
    -- one more that is accepted
    pub replayed-more : (op : Op) (v : Tree) → i < length ops → op ≡ get_or ops i op → refusal ss u op ≡ None → v ≡ tree_after ss u op → HaveReplayed ss t ops (i + 1) v
    replayed-more op v j e n c = record {
      accepted = subst (AllAccepted ss t) (sym (take_more ops i op j e)) (accepted-snoc kind.N ss t 0 (take i ops) op h.accepted (ap (λ w. refusal ss w op) (sym (h.tree kind.N 0)) ∙ n));
      tree = λ k n.
          c ∙ ap (λ w. tree_after ss w op) (h.tree k n)
          ∙ sym (pass-tree k ss (stage_after k ss t n (take i ops)) op)
          ∙ ap (λ x. x.tree) (sym (passed-snoc k ss t n (take i ops) op))
          ∙ ap (λ os. (stage_after k ss t n os).tree) (sym (take_more ops i op j e));
    }

    -- where one is refused, not all are accepted
    pub replayed-refused : (op : Op) → i < length ops → op ≡ get_or ops i op → is_some (refusal ss u op) ≡ true → AllAccepted ss t ops → ⊥
    unfolding stage_after
    replayed-refused op j e r a =
        let n : refusal ss u op ≡ None = ap (λ w. refusal ss w op) (h.tree kind.N 0) ∙ accepted_at kind.N ss (record { tree = t; next = 0; records = [] }) ops i op j e a in
        let b = ap is_some n in
        absurd (cc)

    -- and the tree is that of those before it
    pub replayed-until : (op : Op) → i < length ops → op ≡ get_or ops i op → is_some (refusal ss u op) ≡ true → u ≡ tree_until ss t ops
    unfolding stage_after
    replayed-until op j e r =
        h.tree kind.N 0
        ∙ until_at kind.N ss (record { tree = t; next = 0; records = [] }) ops i op j e h.accepted (ap (λ w. is_some (refusal ss w op)) (sym (h.tree kind.N 0)) ∙ r)

    -- where none is left, all are accepted, and the tree is that of all of them
    pub replayed-all : length ops ≤ i → u ≡ tree_until ss t ops
    unfolding stage_after
    replayed-all j =
        h.tree kind.N 0 ∙ ap (λ os. (stage_after kind.N ss t 0 os).tree) (take_all ops i j)
        ∙ until_all kind.N ss (record { tree = t; next = 0; records = [] }) ops (subst (AllAccepted ss t) (take_all ops i j) h.accepted)
