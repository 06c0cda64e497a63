use Rattle.std.proofs.Common.{◌∙◌, ap, rules}
use Rattle.cp_tree.specs.Rows.{reach_of}
use Rattle.cp_tree.proofs.Answering.{reach_whole, below_is}
use Rattle.cp_tree_box.proofs.Wrapping.{reach_kept, sub_near, sub_places, sub_weight}
use Rattle.cp_tree_box.proofs.tree.BoxTreeTreeRep.reach.Goals as goal

pub returns-then-is_empty : goal.returns-then-is_empty
returns-then-is_empty c =
    let r = c.reach.ensures in
    let s = c.args.self.now in
    reach_whole _ c.args.place.now _ (search rules) (reach_kept s.tally s.root _ s.tallied r.nodes r.inner r.depth r.some_depth r.size r.some_size)

pub reach_of-requires-clause-near : goal.reach_of-requires-clause-near
reach_of-requires-clause-near c = sub_near _ c.args.self.now.tree _ _ c.node.ensures.at

pub reach_of-requires-clause-nodes : goal.reach_of-requires-clause-nodes
reach_of-requires-clause-nodes c = sub_places _ c.args.self.now.tree _ _ c.node.ensures.at

pub reach_of-requires-clause-inner : goal.reach_of-requires-clause-inner
reach_of-requires-clause-inner c = sub_weight _ c.args.self.now.tree _ _ c.node.ensures.at

pub returns : goal.returns
returns c = c.reach_of.ensures ∙ ap reach_of (below_is _ _ _ _ c.node.ensures.at c.labels-2.ensures.labels)
