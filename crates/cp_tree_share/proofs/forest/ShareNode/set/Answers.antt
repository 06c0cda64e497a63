use Rattle.std.proofs.Common.{◌≡◌, ◌∙◌, sym, ap, subst, Some, [], ◌∷◌}
use Rattle.std.specs.Prelude.{OnOk}
use Rattle.cp_model.specs.Place.{child}
use Rattle.cp_model.specs.Keyed.{get, entries}
use Rattle.cp_model.specs.Subtrees.{with_subtree}
use Rattle.cp_model.specs.declared.row.Content.TheVariants.{Node}
use Rattle.cp_tree.proofs.GoodLemmas.{get_nothing}
use Rattle.cp_tree.proofs.Changes.{node_here, node_below, small_below, put_as_child}
use Rattle.cp_tree.specs.Sums.{IsSmall}
use Rattle.cp_tree_share.proofs.At.{none_some, child_as}
use Rattle.cp_tree_share.proofs.forest.ShareNode.set.Goals as goal
use Rattle.cp_tree_share.proofs.forest.ShareNode.set.Goals.{In_ok-changed-in-Some-find}

pub put-requires-clause-node : goal.put-requires-clause-node
put-requires-clause-node c =
    let node : get c.args.self.now (c.in-Some.first.now ∷ c.in-Some.rest.now) ≡ Some Node = rw (← c.in-Some.ensures.cases.0) c.requires.node in
    node_below _ _ _ c.self.view_is c.self.invariant _ _ c.in-Some-find.ensures.there c.in-Some.rest.now c.args.new.now.0 c.args.new.now.1 c.requires.rooted node

pub put-requires-clause-small : goal.put-requires-clause-small
put-requires-clause-small c =
    let node : get c.args.self.now (c.in-Some.first.now ∷ c.in-Some.rest.now) ≡ Some Node = rw (← c.in-Some.ensures.cases.0) c.requires.node in
    small_below _ _ _ c.self.view_is c.self.invariant _ _ c.in-Some-find.ensures.there c.in-Some.rest.now c.args.new.now.0 c.args.new.now.1 c.requires.rooted node (rw c.in-Some.ensures.cases.0 at c.requires.small)

pub set_child-requires-in-Some-find-clause-node : goal.set_child-requires-in-Some-find-clause-node
set_child-requires-in-Some-find-clause-node c =
    node_here _ _ _ c.self.view_is c.self.invariant _ _ c.in-Some-find.ensures.there c.in-Some.rest.now c.args.new.now.0

-- the node's child is put as a whole
whole : (c : In_ok-changed-in-Some-find) → with_subtree (c.in_ok-changed-in-Some-find.changed.0 ∷ []) (entries c.in_ok-changed-in-Some-find.changed.1) c.args.self.now ≡ with_subtree (child c.args.place.now c.args.new.now.0) (entries c.args.new.now.1) c.args.self.now
whole c =
    let node : get c.args.self.now (c.in-Some.first.now ∷ c.in-Some.rest.now) ≡ Some Node = rw (← c.in-Some.ensures.cases.0) c.requires.node in
    let label = c.in_ok-changed-in-Some-find.ensures.label ∙ c.in-Some-find.ensures.label in
    let as_child = put_as_child _ _ _ c.self.view_is c.self.invariant _ _ c.in-Some-find.ensures.there c.in-Some.rest.now c.args.new.now.0 c.args.new.now.1 c.requires.rooted node in
    child_as _ _ _ _ _ _ label c.in_ok-changed-in-Some-find.ensures.tree as_child ∙ ap (λ z. with_subtree (child z c.args.new.now.0) (entries c.args.new.now.1) c.args.self.now) (sym c.in-Some.ensures.cases.0)

pub set_child-requires-in-Some-find-clause-small : goal.set_child-requires-in-Some-find-clause-small
set_child-requires-in-Some-find-clause-small c = subst IsSmall (sym (whole (goal.at.set_child-requires-in-Some-find-clause-small c).In_ok-changed-in-Some-find)) c.requires.small

pub returns-in_ok-changed-in-Some-find-clause-ok : goal.returns-in_ok-changed-in-Some-find-clause-ok
returns-in_ok-changed-in-Some-find-clause-ok c =
    subst (λ z. OnOk c.set_child-in-Some-find.result (c.set_child-in-Some-find.new.self ≡ z)) (whole (goal.at.returns-in_ok-changed-in-Some-find-clause-ok c).In_ok-changed-in-Some-find) c.set_child-in-Some-find.ensures.ok

pub unreachable-requires : goal.unreachable-requires
unreachable-requires c =
    none_some Node (sym (get_nothing _ _ c.self.inside.children.0 c.self.inside.children.0 _ c.self.view_is c.self.invariant c.in-Some.rest.now c.in-None-find.ensures.gone) ∙ rw (← c.in-Some.ensures.cases.0) c.requires.node)
