use Rattle.std.proofs.Common.{◌∙◌}
use Rattle.cp_tree_arena.proofs.Placing.{built_tree}
use Rattle.cp_tree_arena.proofs.Rows.{single_is}
use Rattle.cp_tree_arena.proofs.Trees.{leaf_built, built_arena}
use Rattle.cp_tree_arena.proofs.tree.Arena.leaf.Goals as goal

pub invariant_of-result : goal.invariant_of-result
invariant_of-result c = built_arena _ _ (leaf_built _ _ _ c.args.content c.none.ensures c.new.ensures.slots c.new.ensures.free)

pub returns : goal.returns
returns c = built_tree _ _ _ _ _ _ (leaf_built _ _ _ c.args.content c.none.ensures c.new.ensures.slots c.new.ensures.free) ∙ single_is c.args.content
