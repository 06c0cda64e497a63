use Rattle.std.proofs.Common.{◌≡◌, ◌∙◌, sym, ap, subst, Some, arith, [], ◌∷◌, IfOk}
use Rattle.cp_model.specs.Place.{child}
use Rattle.cp_model.specs.Keyed.{get, entries}
use Rattle.cp_model.specs.Subtrees.{with_subtree}
use Rattle.cp_model.specs.declared.row.Content.TheVariants.{Node}
use Rattle.cp_tree.proofs.GoodLemmas.{get_nothing}
use Rattle.cp_tree.proofs.Changes.{node_here, node_below, small_below, put_as_child}
use Rattle.cp_tree.specs.Sums.{IsSmall}
use Rattle.cp_tree_share.proofs.At.{none_some, child_as}
use Rattle.cp_tree_share.proofs.forest.+put.Goals as goal
use Rattle.cp_tree_share.proofs.forest.+put.Goals.{ShareNode::put-In_ok-changed-in-Some-find}

pub ShareNode::put-put-requires : goal.ShareNode::put-put-requires
ShareNode::put-put-requires t c =
    let is = c.in-Some-find.ensures.there in
    let node : get c.args.self.now (c.in-Some.first.now ∷ c.in-Some.rest.now) ≡ Some Node = rw (← c.in-Some.ensures.cases.0) c.requires.node in
    let n = node_below _ _ _ c.self.view_is c.self.invariant _ _ is c.in-Some.rest.now c.args.new.now.0 c.args.new.now.1 c.requires.rooted node in
    let s = small_below _ _ _ c.self.view_is c.self.invariant _ _ is c.in-Some.rest.now c.args.new.now.0 c.args.new.now.1 c.requires.rooted node (rw c.in-Some.ensures.cases.0 at c.requires.small) in
    (omega (arith, c.in-Some.ensures.cases.1), (n, (c.requires.rooted, s)))

pub ShareNode::put-with_child-requires-in-Some-find-clause-node : goal.ShareNode::put-with_child-requires-in-Some-find-clause-node
ShareNode::put-with_child-requires-in-Some-find-clause-node t c =
    node_here _ _ _ c.self.view_is c.self.invariant _ _ c.in-Some-find.ensures.there c.in-Some.rest.now c.args.new.now.0

-- the node's child is put as a whole
whole : (t : _) (c : ShareNode::put-In_ok-changed-in-Some-find t) → with_subtree (c.in_ok-changed-in-Some-find.changed.0 ∷ []) (entries c.in_ok-changed-in-Some-find.changed.1) c.args.self.now ≡ with_subtree (child c.args.place.now c.args.new.now.0) (entries c.args.new.now.1) c.args.self.now
whole t c =
    let is = c.in-Some-find.ensures.there in
    let node : get c.args.self.now (c.in-Some.first.now ∷ c.in-Some.rest.now) ≡ Some Node = rw (← c.in-Some.ensures.cases.0) c.requires.node in
    let label = c.in_ok-changed-in-Some-find.ensures.label ∙ c.in-Some-find.ensures.label in
    let as_child = put_as_child _ _ _ c.self.view_is c.self.invariant _ _ is c.in-Some.rest.now c.args.new.now.0 c.args.new.now.1 c.requires.rooted node in
    child_as _ _ _ _ _ _ label c.in_ok-changed-in-Some-find.ensures.tree as_child ∙ ap (λ z. with_subtree (child z c.args.new.now.0) (entries c.args.new.now.1) c.args.self.now) (sym c.in-Some.ensures.cases.0)

pub ShareNode::put-with_child-requires-in-Some-find-clause-small : goal.ShareNode::put-with_child-requires-in-Some-find-clause-small
ShareNode::put-with_child-requires-in-Some-find-clause-small t c = subst IsSmall (sym (whole t (goal.at.ShareNode::put-with_child-requires-in-Some-find-clause-small t c).In_ok-changed-in-Some-find)) c.requires.small

pub ShareNode::put-returns-in_ok-changed-in-Some-find-clause-tree : goal.ShareNode::put-returns-in_ok-changed-in-Some-find-clause-tree
ShareNode::put-returns-in_ok-changed-in-Some-find-clause-tree t c =
    subst (λ z. IfOk c.with_child-in-Some-find.result (λ n. n ≡ z)) (whole t (goal.at.ShareNode::put-returns-in_ok-changed-in-Some-find-clause-tree t c).In_ok-changed-in-Some-find) c.with_child-in-Some-find.ensures.tree

pub ShareNode::put-unreachable-requires : goal.ShareNode::put-unreachable-requires
ShareNode::put-unreachable-requires t c =
    none_some Node (sym (get_nothing _ _ c.self.inside.children.0 c.self.inside.children.0 _ c.self.view_is c.self.invariant c.in-Some.rest.now c.in-None-find.ensures.gone) ∙ rw (← c.in-Some.ensures.cases.0) c.requires.node)
