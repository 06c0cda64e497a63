use Rattle.std.proofs.Common.{◌≡◌, ◌∷◌, ◌++◌, ◌∙◌, ap, sym, subst, append_assoc, IfOk, arith}
use Rattle.cp_tree.specs.Sums.{AreChildren}
use Rattle.cp_tree_share.proofs.At.{outer_left, edges_alone}
use Rattle.cp_tree_share.proofs.forest.Forest.lean_right.Goals as goal
use Rattle.cp_tree_share.proofs.forest.Forest.lean_right.Goals.{In-Some, In_ok-left}

pub fork_shared-requires-clause-children : goal.fork_shared-requires-clause-children
fork_shared-requires-clause-children c =
    let f = c.in-Some.ensures.full in
    outer_left c.args.left.now.0 c.args.entry.now c.in-Some.fork.now.left.0 (c.in-Some.fork.now.entry ∷ c.in-Some.fork.now.right.0) (rw f.edges at c.requires.children)

-- the siblings as the others, and those of the outer part
whole : (c : In-Some) → c.args.left.now.0 ++ c.args.entry.now ∷ c.args.right.now.0 ≡ c.args.left.now.0 ++ c.args.entry.now ∷ (c.in-Some.fork.now.left.0 ++ c.in-Some.fork.now.entry ∷ c.in-Some.fork.now.right.0)
whole c = ap (λ z. c.args.left.now.0 ++ c.args.entry.now ∷ z) c.in-Some.ensures.full.edges

together : (c : In_ok-left) → c.in_ok-left.left.0 ++ c.in-Some.fork.now.entry ∷ c.in-Some.fork.now.right.0 ≡ c.args.left.now.0 ++ c.args.entry.now ∷ (c.in-Some.fork.now.left.0 ++ c.in-Some.fork.now.entry ∷ c.in-Some.fork.now.right.0)
together c =
    ap (λ z. z ++ c.in-Some.fork.now.entry ∷ c.in-Some.fork.now.right.0) (ap (λ z. z.0) c.in_ok-left.ensures)
    ∙ append_assoc c.args.left.now.0 (c.args.entry.now ∷ c.in-Some.fork.now.left.0) (c.in-Some.fork.now.entry ∷ c.in-Some.fork.now.right.0)

pub unreachable-requires : goal.unreachable-requires
unreachable-requires c = absurd (omega (arith, c.in_default.ensures.empty.high, c.requires.two_higher))

pub fork_halves-requires-clause-children : goal.fork_halves-requires-clause-children
fork_halves-requires-clause-children c = subst AreChildren (whole (goal.at.fork_halves-requires-clause-children c).In-Some) c.requires.children

pub fork_halves-requires-clause-left : goal.fork_halves-requires-clause-left
fork_halves-requires-clause-left c = let f = c.in-Some.ensures.full in omega (arith, f.near, f.high, c.requires.two_higher, c.if-height.true, c.height.ensures.is, c.height-2.ensures.is)

pub fork_halves-requires-clause-right : goal.fork_halves-requires-clause-right
fork_halves-requires-clause-right c = omega (arith, c.in-Some.ensures.full.near, c.if-height.true, c.height.ensures.is, c.height-2.ensures.is)

pub fork_shared-requires-clause-near : goal.fork_shared-requires-clause-near
fork_shared-requires-clause-near c =
    let f = c.in-Some.ensures.full in
    (omega (arith, f.near, f.high, c.requires.two_higher, c.if-height.false, c.height.ensures.is, c.height-2.ensures.is), omega (arith, f.near, f.high, c.requires.two_higher, c.if-height.false, c.height.ensures.is, c.height-2.ensures.is))

pub fork_shared-requires-2-clause-children : goal.fork_shared-requires-2-clause-children
fork_shared-requires-2-clause-children c =
    let at = goal.at.fork_shared-requires-2-clause-children c in
    subst AreChildren (whole at.In-Some ∙ sym (together at.In_ok-left)) c.requires.children

pub fork_shared-requires-2-clause-near : goal.fork_shared-requires-2-clause-near
fork_shared-requires-2-clause-near c =
    let f = c.in-Some.ensures.full in
    let l = ap (λ z. z.1) c.in_ok-left.ensures in
    (omega (arith, l, f.near, f.high, c.requires.two_higher, c.if-height.false, c.height.ensures.is, c.height-2.ensures.is), omega (arith, l, f.near, f.high, c.requires.two_higher, c.if-height.false, c.height.ensures.is, c.height-2.ensures.is))

pub returns-then-height-clause-edges : goal.returns-then-height-clause-edges
returns-then-height-clause-edges c =
    subst (λ z. IfOk c.fork_halves.result (λ t. t.0 ≡ z)) (sym (whole (goal.at.returns-then-height-clause-edges c).In-Some)) (edges_alone c.fork_halves.result _ c.fork_halves.ensures)

pub returns-clause-edges : goal.returns-clause-edges
returns-clause-edges c =
    let at = goal.at.returns-clause-edges c in
    subst (λ z. IfOk c.fork_shared-2.result (λ t. t.0 ≡ z)) (together at.In_ok-left ∙ sym (whole at.In-Some)) (edges_alone c.fork_shared-2.result _ c.fork_shared-2.ensures)
