use Rattle.std.proofs.Common.{◌∙◌, sym, ap, subst}
use Rattle.cp_model.specs.Tree.{IsTree}
use Rattle.cp_tree.specs.Rows.{single}
use Rattle.cp_tree.proofs.Leaves.{single-tree}
use Rattle.cp_tree_arena.proofs.tree.ArenaTreeTreeRep.single.Goals as goal

pub invariant_of-result : goal.invariant_of-result
invariant_of-result c = record { tree = subst IsTree (sym (c.leaf.ensures ∙ ap single c.in_ok-content.ensures)) (single-tree _ c.requires.text c.number_range.ensures) }
