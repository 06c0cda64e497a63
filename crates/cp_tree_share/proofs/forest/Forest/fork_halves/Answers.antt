use Rattle.std.proofs.Common.{◌≡◌, [], ◌∷◌, ◌++◌, ◌∙◌, ap, sym, subst, append_assoc, arith}
use Rattle.cp_tree.specs.Sums.{AreChildren}
use Rattle.cp_tree.proofs.SumsLemmas.{children_back}
use Rattle.cp_tree_share.proofs.At.{inner_left, outer_left, outer_mid}
use Rattle.cp_tree_share.proofs.forest.Forest.fork_halves.Goals as goal
use Rattle.cp_tree_share.proofs.forest.Forest.fork_halves.Goals.{In-Some}

pub fork_shared-requires-clause-children : goal.fork_shared-requires-clause-children
fork_shared-requires-clause-children c =
    let f = c.in-Some.ensures.full in
    let k = outer_left c.args.left.now.0 c.args.first.now c.args.inner.now.0 (c.args.last.now ∷ c.args.right.now.0) c.requires.children in
    inner_left c.args.left.now.0 c.args.first.now c.in-Some.fork.now.left.0 c.in-Some.fork.now.entry c.in-Some.fork.now.right.0 (rw f.edges at k)

pub fork_shared-requires-2-clause-children : goal.fork_shared-requires-2-clause-children
fork_shared-requires-2-clause-children c =
    let f = c.in-Some.ensures.full in
    let k = children_back (c.args.first.now ∷ []) (c.args.inner.now.0 ++ c.args.last.now ∷ c.args.right.now.0) (children_back c.args.left.now.0 (c.args.first.now ∷ (c.args.inner.now.0 ++ c.args.last.now ∷ c.args.right.now.0)) c.requires.children) in
    outer_mid c.in-Some.fork.now.left.0 c.in-Some.fork.now.entry c.in-Some.fork.now.right.0 (c.args.last.now ∷ c.args.right.now.0) (rw f.edges at k)

-- the siblings as those of the two halves
whole :
    (c : In-Some) →
    c.args.left.now.0 ++ c.args.first.now ∷ (c.args.inner.now.0 ++ c.args.last.now ∷ c.args.right.now.0) ≡ (c.args.left.now.0 ++ c.args.first.now ∷ c.in-Some.fork.now.left.0) ++ c.in-Some.fork.now.entry ∷ (c.in-Some.fork.now.right.0 ++ c.args.last.now ∷ c.args.right.now.0)
whole c =
    ap (λ z. c.args.left.now.0 ++ c.args.first.now ∷ (z ++ c.args.last.now ∷ c.args.right.now.0)) c.in-Some.ensures.full.edges
    ∙ ap (λ z. c.args.left.now.0 ++ c.args.first.now ∷ z) (append_assoc c.in-Some.fork.now.left.0 (c.in-Some.fork.now.entry ∷ c.in-Some.fork.now.right.0) (c.args.last.now ∷ c.args.right.now.0))
    ∙ sym (append_assoc c.args.left.now.0 (c.args.first.now ∷ c.in-Some.fork.now.left.0) (c.in-Some.fork.now.entry ∷ (c.in-Some.fork.now.right.0 ++ c.args.last.now ∷ c.args.right.now.0)))

pub unreachable-requires : goal.unreachable-requires
unreachable-requires c = absurd (omega (arith, c.in_default.ensures.empty.high, c.requires.left))

pub fork_shared-requires-clause-near : goal.fork_shared-requires-clause-near
fork_shared-requires-clause-near c = let f = c.in-Some.ensures.full in (omega (arith, f.near, f.high, c.requires.left), omega (arith, f.near, f.high, c.requires.left))

pub fork_shared-requires-2-clause-near : goal.fork_shared-requires-2-clause-near
fork_shared-requires-2-clause-near c = let f = c.in-Some.ensures.full in (omega (arith, f.near, f.high, c.requires.right), omega (arith, f.near, f.high, c.requires.right))

pub fork_shared-requires-3-clause-children : goal.fork_shared-requires-3-clause-children
fork_shared-requires-3-clause-children c =
    let l = ap (λ z. z.0) (sym c.in_ok-left.ensures) in
    let r = ap (λ z. z.0) (sym c.in_ok-right.ensures) in
    subst AreChildren (whole (goal.at.fork_shared-requires-3-clause-children c).In-Some ∙ ap (λ z. z ++ c.in-Some.fork.now.entry ∷ (c.in-Some.fork.now.right.0 ++ c.args.last.now ∷ c.args.right.now.0)) l ∙ ap (λ z. c.in_ok-left.left.0 ++ c.in-Some.fork.now.entry ∷ z) r) c.requires.children
