use Rattle.std.proofs.Common.{◌∙◌, ap}
use Rattle.cp_model.specs.Tree.{weight}
use Rattle.cp_tree.proofs.Found.{reach_weight}
use Rattle.cp_tree_arena.proofs.tree.ArenaTreeTreeRep.weight.Goals as goal

pub returns : goal.returns
returns c = reach_weight _ _ c.reach.ensures ∙ ap weight c.root.ensures.tree
