use Rattle.std.proofs.Common.{◌∙◌, ap}
use Rattle.cp_model.specs.Keyed.{len}
use Rattle.cp_tree.proofs.Found.{reach_count}
use Rattle.cp_tree_arena.proofs.tree.ArenaTreeTreeRep.count.Goals as goal

pub returns : goal.returns
returns c = reach_count _ _ c.reach.ensures ∙ ap len c.root.ensures.tree
