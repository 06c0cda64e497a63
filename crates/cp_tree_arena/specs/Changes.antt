-- A node put among siblings or below one of them, and one taken out.
use Rattle.std.specs.Prelude.{◌≡◌, ℕ, true, false, List, [], ◌∷◌, ◌++◌}
use Rattle.std.specs.declared.option.Option.{Option}
use Rattle.std.specs.declared.option.Option.TheVariants.{None, Some}
use Rattle.std.specs.FinMap.Entries.{find, put}
use Rattle.cp_path.specs.Text.{text_cmp}
use Rattle.cp_model.specs.declared.row.Content.TheVariants.{Node}
use Rattle.cp_model.specs.Place.{Label, Path, child}
use Rattle.cp_model.specs.Keyed.{get, entries}
use Rattle.cp_model.specs.Subtrees.{with_subtree, without, is_there}
use Rattle.cp_model.specs.Tree.{Tree}
use Rattle.cp_tree.specs.Branch.{branch, without_child}
use Rattle.cp_tree.specs.Sums.{AreChildren}
use Rattle.cp_tree_arena.specs.declared.slot.Slot.{Slot}
use Rattle.cp_tree_arena.specs.Shapes.{Cell, Edges, Shape, Tip, Fork, number_of, height_of, cells, edges_of, IsSound}
use Rattle.cp_tree_arena.specs.Cells.{Holds}

-- the first label of a place, and the other label where it has none
abbrev pub first_or : Path → Label → Label
first_or [] a = a
first_or (b ∷ p) a = b

-- the edges with the tree at a label changed, where o is that tree
abbrev pub changed_child : Label → (Tree → Tree) → Option Tree → Edges → Edges
changed_child b f None es = es
changed_child b f (Some k) es = put text_cmp b (f k) es

-- the edges with a tree put at the label a below the place p
abbrev pub put_under : Path → Label → Tree → Edges → Edges
put_under [] a n es = put text_cmp a n es
put_under (b ∷ p) a n es = changed_child b (with_subtree (child p a) (entries n)) (find text_cmp b es) es

-- the edges without what stands at the label a below the place p
abbrev pub cut_under : Path → Label → Edges → Edges
cut_under [] a es = without_child a es
cut_under (b ∷ p) a es = changed_child b (without (child p a)) (find text_cmp b es) es

-- a node with no siblings, and siblings among or below which it is to stand, at a place where nothing stands
pub record CanPut (slots : List Slot) (at new : ℕ) (p : Path) (s : Slot) (c t : Shape) (xs ys : List Cell) : Type 0 where
  pub holds : Holds slots (xs ++ (cells t ++ (((new, s) ∷ cells c) ++ ys)))
  pub root : at ≡ number_of t
  pub sound : IsSound t
  pub alone : IsSound (Fork new s Tip c Tip)
  pub node : get (branch Node (edges_of t)) p ≡ Some Node
  pub free : is_there (branch Node (edges_of t)) (child p s.label) ≡ false
  pub small : AreChildren (put_under p s.label (branch s.content (edges_of c)) (edges_of t))

-- there are such a node and such siblings
pub record IsPuttable (slots : List Slot) (at new : ℕ) (p : Path) : Type 0 where
  pub s : Slot
  pub c : Shape
  pub t : Shape
  pub xs : List Cell
  pub ys : List Cell
  pub can : CanPut slots at new p s c t xs ys

-- siblings among or below which something stands at the label a below the place p
pub record CanCut (slots : List Slot) (at : ℕ) (p : Path) (a : Label) (t : Shape) (xs ys : List Cell) : Type 0 where
  pub holds : Holds slots (xs ++ (cells t ++ ys))
  pub root : at ≡ number_of t
  pub sound : IsSound t
  pub there : is_there (branch Node (edges_of t)) (child p a) ≡ true
  pub small : AreChildren (cut_under p a (edges_of t))

-- there are such siblings
pub record IsCuttable (slots : List Slot) (at : ℕ) (p : Path) (a : Label) : Type 0 where
  pub t : Shape
  pub xs : List Cell
  pub ys : List Cell
  pub can : CanCut slots at p a t xs ys

-- the siblings have these edges, and the node that was taken out stands in this slot with its children
pub record Cut (slots : List Slot) (at gone : ℕ) (es : Edges) (h : ℕ → Type 0) (xs ys : List Cell) : Type 0 where
  pub shape : Shape
  pub s : Slot
  pub c : Shape
  pub holds : Holds slots (xs ++ (cells shape ++ (((gone, s) ∷ cells c) ++ ys)))
  pub root : at ≡ number_of shape
  pub sound : IsSound shape
  pub children : s.links.children.number ≡ number_of c
  pub below : IsSound c
  pub edges : edges_of shape ≡ es
  pub high : h (height_of shape)
