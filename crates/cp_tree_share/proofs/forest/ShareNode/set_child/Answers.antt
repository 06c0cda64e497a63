use Rattle.std.proofs.Common.{refl}
use Rattle.cp_tree.proofs.GoodLemmas.{changed_here}
use Rattle.cp_tree.proofs.Changes.{put_children}
use Rattle.cp_tree_share.proofs.forest.ShareNode.set_child.Goals as goal

pub set-requires : goal.set-requires
set-requires c = put_children c.args.self.now _ _ _ _ c.self.view_is c.self.invariant c.requires.node c.requires.rooted c.requires.small

pub invariant_of-self : goal.invariant_of-self
invariant_of-self c = rw c.in_err-set.ensures.err c.self.invariant

pub invariant_of-self-2 : goal.invariant_of-self-2
invariant_of-self-2 c =
    let h = changed_here c.args.self.now _ c.self.inside.children.0 _ c.args.entry.now.0 c.self.view_is c.self.invariant c.args.entry.now.1 c.requires.node c.requires.rooted refl in
    rw c.in_ok-set.ensures.ok h.good

pub returns-clause-ok : goal.returns-clause-ok
returns-clause-ok c =
    let h = changed_here c.args.self.now _ c.self.inside.children.0 _ c.args.entry.now.0 c.self.view_is c.self.invariant c.args.entry.now.1 c.requires.node c.requires.rooted refl in
    rw c.in_ok-set.ensures.ok h.is
