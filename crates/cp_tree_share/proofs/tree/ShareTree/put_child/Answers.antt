use Rattle.std.proofs.Common.{◌≡◌, ◌∙◌, sym, ap, subst}
use Rattle.std.specs.Prelude.{OnOk}
use Rattle.cp_model.specs.Place.{child}
use Rattle.cp_model.specs.Keyed.{entries}
use Rattle.cp_model.specs.Subtrees.{with_subtree}
use Rattle.cp_model.specs.Tree.{IsTree, IsRooted}
use Rattle.cp_tree.specs.Sums.{IsSmall}
use Rattle.cp_tree.proofs.Small.{small_tree}
use Rattle.cp_tree_share.proofs.At.{either_way}
use Rattle.cp_tree_share.proofs.tree.ShareTree.put_child.Goals as goal

pub set-requires-clause-rooted : goal.set-requires-clause-rooted
set-requires-clause-rooted c = subst IsRooted (sym (ap (λ z. z.1) c.in_ok-entry.ensures)) c.requires.rooted

pub set-requires-clause-small : goal.set-requires-clause-small
set-requires-clause-small c =
    let is = ap (λ z. with_subtree (child c.args.place.now z.0) (entries z.1) c.args.self.now.root) c.in_ok-entry.ensures in
    subst IsSmall (sym is) (small_tree _ c.requires.fits)

pub invariant_of-self : goal.invariant_of-self
invariant_of-self c =
    either_way c.set.result c.set.ensures.ok c.set.ensures.err
    (λ is. record { tree = subst IsTree (sym (is ∙ ap (λ z. with_subtree (child c.args.place.now z.0) (entries z.1) c.args.self.now.root) c.in_ok-entry.ensures)) c.requires.fits })
    (λ same. record { tree = subst IsTree (sym same) c.args.self.now.tree })

pub returns-clause-ok : goal.returns-clause-ok
returns-clause-ok c = subst (λ z. OnOk c.set.result (c.set.new.self ≡ z)) (ap (λ z. with_subtree (child c.args.place.now z.0) (entries z.1) c.args.self.now.root) c.in_ok-entry.ensures) c.set.ensures.ok
