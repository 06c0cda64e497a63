-- Which slots hold what.
use Rattle.std.specs.Prelude.{◌≡◌, ℕ, ◌≤◌, ◌==◌, List, ◌++◌, map, length, slice_get}
use Rattle.std.specs.List.{AllByRecursion, IsDistinct}
use Rattle.std.specs.declared.option.Option.TheVariants.{Some}
use Rattle.cp_tree_arena.specs.declared.slot.Slot.{Slot}
use Rattle.cp_tree_arena.specs.declared.slot.SlotId.{SlotId}
use Rattle.cp_tree_arena.specs.Slots.{NO_SLOT}
use Rattle.cp_tree_arena.specs.Shapes.{Cell, Edges, Shape, number_of, height_of, cells, edges_of, IsSound}

-- these slots hold these cells, each number once
pub record Holds (slots : List Slot) (cs : List Cell) : Type 0 where
  pub few : length slots ≤ NO_SLOT
  pub stand : AllByRecursion (λ (c : Cell). slice_get slots c.0 ≡ Some c.1) cs
  pub apart : IsDistinct (λ a b. a == b) (map (λ (c : Cell). c.0) cs)

-- siblings of this shape stand at a number, and other cells before and after theirs
pub record IsAt (slots : List Slot) (at : ℕ) (t : Shape) (xs ys : List Cell) : Type 0 where
  pub root : at ≡ number_of t
  pub holds : Holds slots (xs ++ (cells t ++ ys))
  pub sound : IsSound t

-- siblings with these edges and such a height stand at a number, and other cells before and after theirs
pub record Stand (slots : List Slot) (at : ℕ) (es : Edges) (h : ℕ → Type 0) (xs ys : List Cell) : Type 0 where
  pub shape : Shape
  pub is : IsAt slots at shape xs ys
  pub edges : edges_of shape ≡ es
  pub high : h (height_of shape)

-- the slots hold these cells, and besides the free ones
pub record IsPool (slots : List Slot) (free : List SlotId) (cs : List Cell) : Type 0 where
  pub rest : List Cell
  pub numbers : map (λ (c : Cell). c.0) rest ≡ map (λ (i : SlotId). i.number) free
  pub holds : Holds slots (cs ++ rest)
