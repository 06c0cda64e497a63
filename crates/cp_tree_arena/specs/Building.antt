-- Nodes and trees that were added to the slots, and that no other leads to yet.
use Rattle.std.specs.Prelude.{◌≡◌, ℕ, List, ◌∷◌, ◌++◌}
use Rattle.cp_model.specs.declared.row.Content.{Content}
use Rattle.cp_model.specs.Place.{Label}
use Rattle.cp_model.specs.Tree.{Tree}
use Rattle.cp_tree.specs.Branch.{branch}
use Rattle.cp_tree.specs.Good.{IsGood}
use Rattle.cp_tree_arena.specs.declared.slot.Slot.{Slot}
use Rattle.cp_tree_arena.specs.declared.slot.SlotId.{SlotId}
use Rattle.cp_tree_arena.specs.Shapes.{Cell, Shape, Tip, Fork, number_of, cells, edges_of, IsSound}
use Rattle.cp_tree_arena.specs.Cells.{IsPool}

-- a node with no siblings, with this label and the tree m from it on, stands at a number, and besides these cells
pub record Added (slots : List Slot) (free : List SlotId) (at : ℕ) (a : Label) (m : Tree) (cs : List Cell) : Type 0 where
  pub s : Slot
  pub c : Shape
  pub pool : IsPool slots free ((at, s) ∷ (cells c ++ cs))
  pub alone : IsSound (Fork at s Tip c Tip)
  pub label : s.label ≡ a
  pub tree : branch s.content (edges_of c) ≡ m

-- siblings that are the children of a root x, with the tree m, stand at a number, and besides these cells
pub record Built (slots : List Slot) (free : List SlotId) (at : ℕ) (x : Content) (m : Tree) (cs : List Cell) : Type 0 where
  pub shape : Shape
  pub root : at ≡ number_of shape
  pub pool : IsPool slots free (cells shape ++ cs)
  pub sound : IsSound shape
  pub good : IsGood x (edges_of shape)
  pub tree : branch x (edges_of shape) ≡ m

-- siblings stand at a number, and other cells besides them and the free slots
pub record IsHeld (slots : List Slot) (free : List SlotId) (at : ℕ) : Type 0 where
  pub shape : Shape
  pub cs : List Cell
  pub root : at ≡ number_of shape
  pub sound : IsSound shape
  pub pool : IsPool slots free (cells shape ++ cs)
