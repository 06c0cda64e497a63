use Rattle.std.proofs.Common.{refl}
use Rattle.cp_tree.proofs.GoodLemmas.{dropped_here}
use Rattle.cp_tree.proofs.Changes.{dropped_children}
use Rattle.cp_tree_share.proofs.forest.ShareNode.take_child.Goals as goal

pub take_out-requires : goal.take_out-requires
take_out-requires c = dropped_children c.args.self.now _ _ _ c.self.view_is c.self.invariant c.requires

pub invariant_of-self : goal.invariant_of-self
invariant_of-self c = rw c.in_err-take_out.ensures.err c.self.invariant

pub invariant_of-self-2 : goal.invariant_of-self-2
invariant_of-self-2 c =
    let h = dropped_here c.args.self.now _ c.self.inside.children.0 _ c.args.label.now c.self.view_is c.self.invariant refl in
    rw c.in_ok-take_out.ensures.ok h.good

pub returns-clause-ok : goal.returns-clause-ok
returns-clause-ok c =
    let h = dropped_here c.args.self.now _ c.self.inside.children.0 _ c.args.label.now c.self.view_is c.self.invariant refl in
    rw c.in_ok-take_out.ensures.ok h.is
