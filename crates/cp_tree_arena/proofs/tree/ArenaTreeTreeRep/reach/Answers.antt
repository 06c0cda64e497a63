use Rattle.std.proofs.Common.{◌∙◌, ap}
use Rattle.cp_tree.specs.Rows.{reach_of}
use Rattle.cp_tree.proofs.Answering.{below_is}
use Rattle.cp_tree_arena.proofs.tree.ArenaTreeTreeRep.reach.Goals as goal

pub returns : goal.returns
returns c = c.reach.ensures ∙ ap reach_of (below_is _ _ _ _ c.node.ensures.at c.labels.ensures.labels)
