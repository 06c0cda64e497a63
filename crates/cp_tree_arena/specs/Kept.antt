-- The tree that is kept at a number, read from the slots alone.
use Rattle.std.specs.Prelude.{ℕ, zero, suc, List, slice_get}
use Rattle.std.specs.declared.option.Option.{Option}
use Rattle.std.specs.declared.option.Option.TheVariants.{None, Some}
use Rattle.cp_model.specs.declared.row.Content.{Content}
use Rattle.cp_model.specs.Tree.{Tree}
use Rattle.cp_tree.specs.Branch.{branch}
use Rattle.cp_tree.specs.Good.{IsGood}
use Rattle.cp_tree_arena.specs.declared.slot.Slot.{Slot}
use Rattle.cp_tree_arena.specs.Slots.{sums_in}
use Rattle.cp_tree_arena.specs.Shapes.{Cell, Edges, Shape, Tip, Fork, edges_of}
use Rattle.cp_tree_arena.specs.Cells.{IsAt}

-- the shape of a slot, where f gives that of a number
abbrev pub opened : (ℕ → Shape) → ℕ → Option Slot → Shape
opened f at None = Tip
opened f at (Some s) = Fork at s (f s.links.left.number) (f s.links.children.number) (f s.links.right.number)

-- the shape at a number, at most k steps down
abbrev pub shape_in : ℕ → List Slot → ℕ → Shape
shape_in zero slots at = Tip
shape_in (suc k) slots at = opened (shape_in k slots) at (slice_get slots at)

-- the shape at a number: it has at most as many steps as its root keeps places
unfoldable pub shape_at : List Slot → ℕ → Shape
shape_at slots at = shape_in (sums_in (slice_get slots at)).nodes slots at

-- the edges of the siblings at a number
abbrev pub edges_at : List Slot → ℕ → Edges
edges_at slots at = edges_of (shape_at slots at)

-- the tree of a content and the children at a number
abbrev pub tree_at : List Slot → Content → ℕ → Tree
tree_at slots x at = branch x (edges_at slots at)

-- siblings stand at a number
pub record IsKept (slots : List Slot) (at : ℕ) : Type 0 where
  pub shape : Shape
  pub xs : List Cell
  pub ys : List Cell
  pub is : IsAt slots at shape xs ys

-- a content, and the children at a number, make a tree
pub record IsNodeAt (slots : List Slot) (x : Content) (at : ℕ) : Type 0 where
  pub kept : IsKept slots at
  pub good : IsGood x (edges_at slots at)
