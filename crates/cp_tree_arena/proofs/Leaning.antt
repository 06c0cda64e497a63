-- What rotations to both sides need.
use Rattle.std.specs.Prelude.{◌≡◌, ℕ, ◌<◌, List, [], ◌∷◌, ◌++◌, slice_get}
use Rattle.std.proofs.Common.{sym, ap, subst, append_assoc, arith}
use Rattle.cp_model.specs.Place.{Label}
use Rattle.cp_model.specs.Tree.{Tree}
use Rattle.cp_tree.specs.Sums.{AreChildren}
use Rattle.cp_tree.proofs.SumsLemmas.{children_front, children_back}
use Rattle.cp_tree_arena.specs.declared.slot.Slot.{Slot}
use Rattle.cp_tree_arena.specs.Slots.{links_in}
use Rattle.cp_tree_arena.specs.Shapes.{Cell, Edges, Shape, Tip, Fork, number_of, height_of}
use Rattle.cp_tree_arena.specs.Cells.{IsAt}
use Rattle.cp_tree_arena.proofs.Sound.{root_read}

-- a shape with a root at this number
pub record Top (n : ℕ) (t : Shape) : Type 0 where
  pub s : Slot
  pub l : Shape
  pub c : Shape
  pub r : Shape
  pub is : t ≡ Fork n s l c r

-- one that is no tip has a root
pub top_of : (n : ℕ) (t : Shape) → n ≡ number_of t → 0 < height_of t → Top n t
top_of n Tip e h = absurd (omega arith)
top_of n (Fork m s l c r) e h = record { s = s; l = l; c = c; r = r; is = ap (λ z. Fork z s l c r) (sym e) }

-- the links of a fork
pub links_read : (slots : List Slot) (at n : ℕ) (s : Slot) (l c r : Shape) (xs ys : List Cell) → IsAt slots at (Fork n s l c r) xs ys → links_in (slice_get slots at) ≡ s.links
links_read slots at n s l c r xs ys k = ap links_in (root_read slots at (Fork n s l c r) xs ys k)

-- the edges of the parts of two levels
pub edges_right : (x : Edges) (e : Label × Tree) (y z : Edges) → AreChildren ((x ++ e ∷ y) ++ z) → AreChildren (y ++ z)
edges_right x e y z k = children_back (e ∷ []) (y ++ z) (children_back x (e ∷ (y ++ z)) (subst AreChildren (append_assoc x (e ∷ y) z) k))

pub edges_left : (x : Edges) (e : Label × Tree) (y z : Edges) → AreChildren (x ++ e ∷ (y ++ z)) → AreChildren (x ++ e ∷ y)
edges_left x e y z k = children_front (x ++ e ∷ y) z (subst AreChildren (sym (append_assoc x (e ∷ y) z)) k)

pub regrouped : (x : Edges) (e : Label × Tree) (y : Edges) (g : Label × Tree) (z : Edges) (h : Label × Tree) (w : Edges) → (x ++ e ∷ y) ++ g ∷ (z ++ h ∷ w) ≡ (x ++ e ∷ (y ++ g ∷ z)) ++ h ∷ w
regrouped x e y g z h w = simp append_assoc
