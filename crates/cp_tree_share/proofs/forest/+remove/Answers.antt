use Rattle.std.proofs.Common.{◌≡◌, ◌∙◌, sym, ap, subst, Some, arith, [], ◌∷◌, IfOk, true}
use Rattle.std.specs.Prelude.{is_some}
use Rattle.cp_model.specs.Place.{child}
use Rattle.cp_model.specs.Keyed.{entries}
use Rattle.cp_model.specs.Subtrees.{with_subtree, without, is_there}
use Rattle.cp_tree.proofs.GoodLemmas.{get_below, get_nothing}
use Rattle.cp_tree.proofs.Changes.{node_here, small_cut, cut_as_child}
use Rattle.cp_tree.specs.Sums.{IsSmall}
use Rattle.cp_tree.proofs.Found.{no_length}
use Rattle.cp_tree_share.proofs.At.{child_as}
use Rattle.cp_tree_share.proofs.forest.+remove.Goals as goal
use Rattle.cp_tree_share.proofs.forest.+remove.Goals.{ShareNode::remove-In_ok-changed-in-Some-find}

pub ShareNode::remove-without_child-requires : goal.ShareNode::remove-without_child-requires
ShareNode::remove-without_child-requires t c = rw (no_length _ c.in-None.ensures.cases) at c.requires.small

pub ShareNode::remove-returns-in-None-clause-tree : goal.ShareNode::remove-returns-in-None-clause-tree
ShareNode::remove-returns-in-None-clause-tree t c = rw (no_length _ c.in-None.ensures.cases) c.without_child.ensures.tree

pub ShareNode::remove-remove-requires : goal.ShareNode::remove-remove-requires
ShareNode::remove-remove-requires t c =
    let is = c.in-Some-find.ensures.there in
    let s = small_cut _ _ _ c.self.view_is c.self.invariant _ _ is c.in-Some.rest.now c.args.label.now (rw c.in-Some.ensures.cases.0 at c.requires.small) in
    let i : is_there c.args.self.now (c.in-Some.first.now ∷ child c.in-Some.rest.now c.args.label.now) ≡ true = ap (λ z. is_there c.args.self.now (child z c.args.label.now)) (sym c.in-Some.ensures.cases.0) ∙ c.requires.there in
    let n = ap is_some (sym (get_below c.args.self.now _ c.self.inside.children.0 c.self.inside.children.0 _ c.self.view_is c.self.invariant (child c.in-Some.rest.now c.args.label.now) _ is)) ∙ i in
    (omega (arith, c.in-Some.ensures.cases.1), (n, s))

-- the node's child is put as a whole
whole : (t : _) (c : ShareNode::remove-In_ok-changed-in-Some-find t) → with_subtree (c.in_ok-changed-in-Some-find.changed.0 ∷ []) (entries c.in_ok-changed-in-Some-find.changed.1) c.args.self.now ≡ without (child c.args.place.now c.args.label.now) c.args.self.now
whole t c =
    let is = c.in-Some-find.ensures.there in
    let label = c.in_ok-changed-in-Some-find.ensures.label ∙ c.in-Some-find.ensures.label in
    let as_child = cut_as_child _ _ _ c.self.view_is c.self.invariant _ _ is c.in-Some.rest.now c.args.label.now in
    child_as _ _ _ _ _ _ label c.in_ok-changed-in-Some-find.ensures.tree as_child ∙ ap (λ z. without (child z c.args.label.now) c.args.self.now) (sym c.in-Some.ensures.cases.0)

pub ShareNode::remove-with_child-requires-clause-node : goal.ShareNode::remove-with_child-requires-clause-node
ShareNode::remove-with_child-requires-clause-node t c =
    node_here _ _ _ c.self.view_is c.self.invariant _ _ c.in-Some-find.ensures.there c.in-Some.rest.now c.args.label.now

pub ShareNode::remove-with_child-requires-clause-small : goal.ShareNode::remove-with_child-requires-clause-small
ShareNode::remove-with_child-requires-clause-small t c = subst IsSmall (sym (whole t (goal.at.ShareNode::remove-with_child-requires-clause-small t c).In_ok-changed-in-Some-find)) c.requires.small

pub ShareNode::remove-returns-in_ok-changed-in-Some-find-clause-tree : goal.ShareNode::remove-returns-in_ok-changed-in-Some-find-clause-tree
ShareNode::remove-returns-in_ok-changed-in-Some-find-clause-tree t c =
    subst (λ z. IfOk c.with_child.result (λ n. n ≡ z)) (whole t (goal.at.ShareNode::remove-returns-in_ok-changed-in-Some-find-clause-tree t c).In_ok-changed-in-Some-find) c.with_child.ensures.tree

pub ShareNode::remove-unreachable-requires : goal.ShareNode::remove-unreachable-requires
ShareNode::remove-unreachable-requires t c =
    let q = child c.in-Some.rest.now c.args.label.now in
    let none = ap is_some (get_nothing c.args.self.now _ c.self.inside.children.0 c.self.inside.children.0 _ c.self.view_is c.self.invariant q c.in-None-find.ensures.gone) in
    let i : is_there c.args.self.now (c.in-Some.first.now ∷ q) ≡ true = ap (λ z. is_there c.args.self.now (child z c.args.label.now)) (sym c.in-Some.ensures.cases.0) ∙ c.requires.there in
    absurd (cc)
