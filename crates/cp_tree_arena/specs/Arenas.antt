-- The tree in an arena.
use Rattle.std.specs.Prelude.{◌≡◌}
use Rattle.cp_model.specs.Tree.{Tree}
use Rattle.cp_tree.specs.Good.{IsGood}
use Rattle.cp_tree_arena.specs.declared.tree.Arena.TheInside.{Inside}
use Rattle.cp_tree_arena.specs.Shapes.{Shape, number_of, cells, edges_of, IsSound}
use Rattle.cp_tree_arena.specs.Cells.{IsPool}
use Rattle.cp_tree_arena.specs.Kept.{tree_at}

-- the tree of what stands at the root, and of the slots below it
abbrev pub tree_inside : Inside → Tree
tree_inside a = tree_at a.pool.slots.items a.content a.children.number

-- the children stand in the slots, which hold no more besides than the free ones, and make a tree with the root
pub record IsArena (a : Inside) : Type 0 where
  pub shape : Shape
  pub root : a.children.number ≡ number_of shape
  pub sound : IsSound shape
  pub pool : IsPool a.pool.slots.items a.pool.free.items (cells shape)
  pub good : IsGood a.content (edges_of shape)
