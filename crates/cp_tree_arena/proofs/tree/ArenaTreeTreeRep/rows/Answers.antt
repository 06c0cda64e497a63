use Rattle.std.proofs.Common.{◌∙◌, ap, map}
use Rattle.cp_tree.specs.Rows.{entry_row}
use Rattle.cp_tree.proofs.Answering.{below_is}
use Rattle.cp_tree_arena.proofs.tree.ArenaTreeTreeRep.rows.Goals as goal

pub returns : goal.returns
returns c = c.in_ok-rows.ensures ∙ ap (map entry_row) (below_is _ _ _ _ c.node.ensures.at c.labels.ensures.labels)
