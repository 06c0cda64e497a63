use Rattle.std.proofs.Common.{refl}
use Rattle.cp_tree.proofs.GoodLemmas.{changed_here, rooted-branch}
use Rattle.cp_tree.proofs.Changes.{put_children}
use Rattle.cp_tree_share.proofs.forest.ShareNode.with_child.Goals as goal

pub put-requires : goal.put-requires
put-requires c = put_children c.args.self.now _ _ _ _ c.self.view_is c.self.invariant c.requires.node c.requires.rooted c.requires.small

pub invariant_of-result : goal.invariant_of-result
invariant_of-result c =
    let h = changed_here c.args.self.now _ c.self.inside.children.0 _ c.args.entry.now.0 c.self.view_is c.self.invariant c.args.entry.now.1 c.requires.node c.requires.rooted refl in
    rw (c.in_ok-content.ensures, c.in_ok-children.ensures.edges) h.good

pub returns-clause-tree : goal.returns-clause-tree
returns-clause-tree c =
    let h = changed_here c.args.self.now _ c.self.inside.children.0 _ c.args.entry.now.0 c.self.view_is c.self.invariant c.args.entry.now.1 c.requires.node c.requires.rooted refl in
    rw (c.in_ok-content.ensures, c.in_ok-children.ensures.edges) h.is

pub returns-clause-rooted : goal.returns-clause-rooted
returns-clause-rooted c =
    let h = changed_here c.args.self.now _ c.self.inside.children.0 _ c.args.entry.now.0 c.self.view_is c.self.invariant c.args.entry.now.1 c.requires.node c.requires.rooted refl in
    rw (c.in_ok-content.ensures, c.in_ok-children.ensures.edges) (rooted-branch _ _ h.good)
