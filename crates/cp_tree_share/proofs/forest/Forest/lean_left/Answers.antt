use Rattle.std.proofs.Common.{◌≡◌, ◌∷◌, ◌++◌, ◌∙◌, ap, sym, subst, append_assoc, IfOk, arith}
use Rattle.cp_tree.specs.Sums.{AreChildren}
use Rattle.cp_tree_share.proofs.At.{inner_right, edges_alone}
use Rattle.cp_tree_share.proofs.forest.Forest.lean_left.Goals as goal
use Rattle.cp_tree_share.proofs.forest.Forest.lean_left.Goals.{In-Some}

pub fork_shared-requires-clause-children : goal.fork_shared-requires-clause-children
fork_shared-requires-clause-children c =
    let f = c.in-Some.ensures.full in
    inner_right c.in-Some.fork.now.left.0 c.in-Some.fork.now.entry c.in-Some.fork.now.right.0 (c.args.entry.now ∷ c.args.right.now.0) (rw f.edges at c.requires.children)

-- the siblings as those of the outer part, and the others
whole : (c : In-Some) → c.args.left.now.0 ++ c.args.entry.now ∷ c.args.right.now.0 ≡ c.in-Some.fork.now.left.0 ++ c.in-Some.fork.now.entry ∷ (c.in-Some.fork.now.right.0 ++ c.args.entry.now ∷ c.args.right.now.0)
whole c =
    ap (λ z. z ++ c.args.entry.now ∷ c.args.right.now.0) c.in-Some.ensures.full.edges ∙ append_assoc c.in-Some.fork.now.left.0 (c.in-Some.fork.now.entry ∷ c.in-Some.fork.now.right.0) (c.args.entry.now ∷ c.args.right.now.0)

pub fork_halves-requires-clause-children : goal.fork_halves-requires-clause-children
fork_halves-requires-clause-children c = subst AreChildren (whole (goal.at.fork_halves-requires-clause-children c).In-Some) c.requires.children

pub fork_shared-requires-2-clause-children : goal.fork_shared-requires-2-clause-children
fork_shared-requires-2-clause-children c =
    subst AreChildren (whole (goal.at.fork_shared-requires-2-clause-children c).In-Some ∙ ap (λ z. c.in-Some.fork.now.left.0 ++ c.in-Some.fork.now.entry ∷ z) (ap (λ z. z.0) (sym c.in_ok-right.ensures))) c.requires.children

pub returns-then-height-clause-edges : goal.returns-then-height-clause-edges
returns-then-height-clause-edges c =
    subst (λ z. IfOk c.fork_halves.result (λ t. t.0 ≡ z)) (sym (whole (goal.at.returns-then-height-clause-edges c).In-Some)) (edges_alone c.fork_halves.result _ c.fork_halves.ensures)

pub returns-clause-edges : goal.returns-clause-edges
returns-clause-edges c =
    subst (λ z. IfOk c.fork_shared-2.result (λ t. t.0 ≡ z))
    (ap (λ z. c.in-Some.fork.now.left.0 ++ c.in-Some.fork.now.entry ∷ z) (ap (λ z. z.0) c.in_ok-right.ensures) ∙ sym (whole (goal.at.returns-clause-edges c).In-Some))
    (edges_alone c.fork_shared-2.result _ c.fork_shared-2.ensures)

pub unreachable-requires : goal.unreachable-requires
unreachable-requires c = absurd (omega (arith, c.in_default.ensures.empty.high, c.requires.two_higher))

pub fork_halves-requires-clause-left : goal.fork_halves-requires-clause-left
fork_halves-requires-clause-left c = omega (arith, c.in-Some.ensures.full.near, c.if-height.true, c.height.ensures.is, c.height-2.ensures.is)

pub fork_halves-requires-clause-right : goal.fork_halves-requires-clause-right
fork_halves-requires-clause-right c = omega (arith, c.in-Some.ensures.full.near, c.in-Some.ensures.full.high, c.requires.two_higher, c.if-height.true, c.height.ensures.is, c.height-2.ensures.is)

pub fork_shared-requires-clause-near : goal.fork_shared-requires-clause-near
fork_shared-requires-clause-near c = let f = c.in-Some.ensures.full in (omega (arith, f.near, f.high, c.requires.two_higher, c.if-height.false, c.height.ensures.is, c.height-2.ensures.is), omega (arith, f.near, f.high, c.requires.two_higher, c.if-height.false, c.height.ensures.is, c.height-2.ensures.is))

pub fork_shared-requires-2-clause-near : goal.fork_shared-requires-2-clause-near
fork_shared-requires-2-clause-near c =
    let f = c.in-Some.ensures.full in
    let r = ap (λ z. z.1) c.in_ok-right.ensures in
    (omega (arith, r, f.near, f.high, c.requires.two_higher, c.if-height.false, c.height.ensures.is, c.height-2.ensures.is), omega (arith, r, f.near, f.high, c.requires.two_higher, c.if-height.false, c.height.ensures.is, c.height-2.ensures.is))
