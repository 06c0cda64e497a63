use Rattle.std.proofs.Common.{◌≡◌, ◌∙◌, sym, ap, subst, [], ◌∷◌, true}
use Rattle.std.specs.Prelude.{is_some, OnOk}
use Rattle.cp_model.specs.Place.{child}
use Rattle.cp_model.specs.Keyed.{entries}
use Rattle.cp_model.specs.Subtrees.{with_subtree, without, is_there}
use Rattle.cp_tree.proofs.GoodLemmas.{get_below, get_nothing}
use Rattle.cp_tree.proofs.Changes.{node_here, small_cut, cut_as_child}
use Rattle.cp_tree.specs.Sums.{IsSmall}
use Rattle.cp_tree.proofs.Found.{no_length}
use Rattle.cp_tree_share.proofs.At.{child_as}
use Rattle.cp_tree_share.proofs.forest.ShareNode.take_out.Goals as goal
use Rattle.cp_tree_share.proofs.forest.ShareNode.take_out.Goals.{In_ok-changed-in-Some-find}

pub take_child-requires : goal.take_child-requires
take_child-requires c = rw (no_length _ c.in-None.ensures.cases) at c.requires.small

pub returns-in-None-clause-ok : goal.returns-in-None-clause-ok
returns-in-None-clause-ok c = rw (no_length _ c.in-None.ensures.cases) c.take_child.ensures.ok

pub remove-requires-clause-there : goal.remove-requires-clause-there
remove-requires-clause-there c =
    let i : is_there c.args.self.now (c.in-Some.first.now ∷ child c.in-Some.rest.now c.args.label.now) ≡ true = ap (λ z. is_there c.args.self.now (child z c.args.label.now)) (sym c.in-Some.ensures.cases.0) ∙ c.requires.there in
    ap is_some (sym (get_below c.args.self.now _ c.self.inside.children.0 c.self.inside.children.0 _ c.self.view_is c.self.invariant (child c.in-Some.rest.now c.args.label.now) _ c.in-Some-find.ensures.there)) ∙ i

pub remove-requires-clause-small : goal.remove-requires-clause-small
remove-requires-clause-small c =
    small_cut _ _ _ c.self.view_is c.self.invariant _ _ c.in-Some-find.ensures.there c.in-Some.rest.now c.args.label.now (rw c.in-Some.ensures.cases.0 at c.requires.small)

-- the node's child is put as a whole
whole : (c : In_ok-changed-in-Some-find) → with_subtree (c.in_ok-changed-in-Some-find.changed.0 ∷ []) (entries c.in_ok-changed-in-Some-find.changed.1) c.args.self.now ≡ without (child c.args.place.now c.args.label.now) c.args.self.now
whole c =
    let label = c.in_ok-changed-in-Some-find.ensures.label ∙ c.in-Some-find.ensures.label in
    let as_child = cut_as_child _ _ _ c.self.view_is c.self.invariant _ _ c.in-Some-find.ensures.there c.in-Some.rest.now c.args.label.now in
    child_as _ _ _ _ _ _ label c.in_ok-changed-in-Some-find.ensures.tree as_child ∙ ap (λ z. without (child z c.args.label.now) c.args.self.now) (sym c.in-Some.ensures.cases.0)

pub set_child-requires-clause-node : goal.set_child-requires-clause-node
set_child-requires-clause-node c =
    node_here _ _ _ c.self.view_is c.self.invariant _ _ c.in-Some-find.ensures.there c.in-Some.rest.now c.args.label.now

pub set_child-requires-clause-small : goal.set_child-requires-clause-small
set_child-requires-clause-small c = subst IsSmall (sym (whole (goal.at.set_child-requires-clause-small c).In_ok-changed-in-Some-find)) c.requires.small

pub returns-in_ok-changed-in-Some-find-clause-ok : goal.returns-in_ok-changed-in-Some-find-clause-ok
returns-in_ok-changed-in-Some-find-clause-ok c =
    subst (λ z. OnOk c.set_child.result (c.set_child.new.self ≡ z)) (whole (goal.at.returns-in_ok-changed-in-Some-find-clause-ok c).In_ok-changed-in-Some-find) c.set_child.ensures.ok

pub unreachable-requires : goal.unreachable-requires
unreachable-requires c =
    let q = child c.in-Some.rest.now c.args.label.now in
    let none = ap is_some (get_nothing c.args.self.now _ c.self.inside.children.0 c.self.inside.children.0 _ c.self.view_is c.self.invariant q c.in-None-find.ensures.gone) in
    let i : is_there c.args.self.now (c.in-Some.first.now ∷ q) ≡ true = ap (λ z. is_there c.args.self.now (child z c.args.label.now)) (sym c.in-Some.ensures.cases.0) ∙ c.requires.there in
    absurd (cc)
