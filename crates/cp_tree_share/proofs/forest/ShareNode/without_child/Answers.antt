use Rattle.std.proofs.Common.{refl}
use Rattle.cp_tree.proofs.GoodLemmas.{dropped_here, rooted-branch}
use Rattle.cp_tree.proofs.Changes.{dropped_children}
use Rattle.cp_tree_share.proofs.forest.ShareNode.without_child.Goals as goal

pub remove-requires : goal.remove-requires
remove-requires c = dropped_children c.args.self.now _ _ _ c.self.view_is c.self.invariant c.requires

pub invariant_of-result : goal.invariant_of-result
invariant_of-result c =
    let h = dropped_here c.args.self.now _ c.self.inside.children.0 _ c.args.label.now c.self.view_is c.self.invariant refl in
    rw (c.in_ok-content.ensures, c.in_ok-children.ensures.edges) h.good

pub returns-clause-tree : goal.returns-clause-tree
returns-clause-tree c =
    let h = dropped_here c.args.self.now _ c.self.inside.children.0 _ c.args.label.now c.self.view_is c.self.invariant refl in
    rw (c.in_ok-content.ensures, c.in_ok-children.ensures.edges) h.is

pub returns-clause-rooted : goal.returns-clause-rooted
returns-clause-rooted c =
    let h = dropped_here c.args.self.now _ c.self.inside.children.0 _ c.args.label.now c.self.view_is c.self.invariant refl in
    rw (c.in_ok-content.ensures, c.in_ok-children.ensures.edges) (rooted-branch _ _ h.good)
