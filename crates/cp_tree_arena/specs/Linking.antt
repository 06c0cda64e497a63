-- Nodes that are to be linked to their neighbours.
use Rattle.std.specs.Prelude.{◌≡◌, ℕ, ◌<◌, List, ◌∷◌, ◌++◌}
use Rattle.cp_tree.specs.Branch.{branch}
use Rattle.cp_tree.specs.Good.{IsGood}
use Rattle.cp_tree.specs.Sums.{AreChildren}
use Rattle.cp_tree_arena.specs.declared.slot.Slot.{Slot}
use Rattle.cp_tree_arena.specs.declared.slot.Links.{Links}
use Rattle.cp_tree_arena.specs.Shapes.{Cell, Edges, Shape, number_of, height_of, cells, edges_of, edges_around, IsSound, Near}
use Rattle.cp_tree_arena.specs.Cells.{Holds, IsAt}

-- the siblings' edges around a node that is to be linked
abbrev pub linked_edges : Slot → Shape → Shape → Shape → Edges
linked_edges s l c r = edges_around (edges_of l) s (edges_of c) (edges_of r)

-- a node, its children, and the siblings before and after it, whose heights differ by so much at most
pub record CanLink (by : ℕ) (slots : List Slot) (at : ℕ) (links : Links) (s : Slot) (l c r : Shape) (xs ys : List Cell) : Type 0 where
  pub holds : Holds slots (xs ++ ((cells l ++ (at, s) ∷ (cells c ++ cells r)) ++ ys))
  pub left : links.left.number ≡ number_of l
  pub children : links.children.number ≡ number_of c
  pub right : links.right.number ≡ number_of r
  pub before : IsSound l
  pub below : IsSound c
  pub after : IsSound r
  pub good : IsGood s.content (edges_of c)
  pub edges : AreChildren (linked_edges s l c r)
  pub near : Near by (height_of l) (height_of r)

-- there are such a node and such siblings
pub record IsLinkable (by : ℕ) (slots : List Slot) (at : ℕ) (links : Links) : Type 0 where
  pub s : Slot
  pub l : Shape
  pub c : Shape
  pub r : Shape
  pub xs : List Cell
  pub ys : List Cell
  pub can : CanLink by slots at links s l c r xs ys

-- siblings, and others after them
pub record CanJoin (slots : List Slot) (first last : ℕ) (l r : Shape) (xs ys : List Cell) : Type 0 where
  pub holds : Holds slots (xs ++ ((cells l ++ cells r) ++ ys))
  pub left : first ≡ number_of l
  pub right : last ≡ number_of r
  pub before : IsSound l
  pub after : IsSound r
  pub edges : AreChildren (edges_of l ++ edges_of r)
  pub near : Near 1 (height_of l) (height_of r)

-- there are such siblings
pub record IsJoinable (slots : List Slot) (left right : ℕ) : Type 0 where
  pub l : Shape
  pub r : Shape
  pub xs : List Cell
  pub ys : List Cell
  pub can : CanJoin slots left right l r xs ys

-- some siblings stand at a number
pub record IsFull (slots : List Slot) (at : ℕ) : Type 0 where
  pub shape : Shape
  pub xs : List Cell
  pub ys : List Cell
  pub is : IsAt slots at shape xs ys
  pub some : 0 < height_of shape

-- the siblings fell into the first of them, in this slot with these children, and the others, which such a height suits
pub record Popped (slots : List Slot) (first others : ℕ) (es : Edges) (h : ℕ → Type 0) (xs ys : List Cell) : Type 0 where
  pub s : Slot
  pub c : Shape
  pub shape : Shape
  pub holds : Holds slots (xs ++ (((first, s) ∷ (cells c ++ cells shape)) ++ ys))
  pub root : others ≡ number_of shape
  pub children : s.links.children.number ≡ number_of c
  pub below : IsSound c
  pub sound : IsSound shape
  pub good : IsGood s.content (edges_of c)
  pub edges : es ≡ (s.label, branch s.content (edges_of c)) ∷ edges_of shape
  pub high : h (height_of shape)
