use Rattle.std.proofs.Common.{refl}
use Rattle.cp_tree_arena.proofs.Placing.{built_node}
use Rattle.cp_tree_arena.proofs.Trees.{arena_built}
use Rattle.cp_tree_arena.proofs.tree.Arena.root.Goals as goal

pub returns-clause-node : goal.returns-clause-node
returns-clause-node c = rw c.as_slice.ensures.value (built_node _ _ _ _ _ _ (arena_built c.self.inside _ refl c.self.invariant))
