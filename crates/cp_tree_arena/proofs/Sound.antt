-- What the slots at the root of a sound shape say, where they hold it, and where its parts stand.
use Rattle.std.specs.Prelude.{◌≡◌, ℕ, ◌≤◌, ◌<◌, List, [], ◌∷◌, ◌++◌, length, slice_get, refl}
use Rattle.std.proofs.Common.{ap, subst, ◌∙◌, append_assoc, arith}
use Rattle.std.specs.declared.option.Option.{Option}
use Rattle.std.specs.declared.option.Option.TheVariants.{None, Some}
use Rattle.std.proofs.lemmas.Option.{slice_get_past}
use Rattle.cp_tree.specs.Branch.{children_len}
use Rattle.cp_tree.specs.Sums.{sums_of}
use Rattle.cp_tree_arena.specs.declared.slot.Slot.{Slot}
use Rattle.cp_tree_arena.specs.declared.slot.Links.{Links}
use Rattle.cp_tree_arena.specs.Slots.{NO_SLOT, height_in, sums_in}
use Rattle.cp_tree_arena.specs.Shapes.{Cell, Shape, Tip, Fork, height_of, cells, edges_of, IsSound}
use Rattle.cp_tree_arena.specs.Cells.{Holds, IsAt}
use Rattle.cp_tree_arena.specs.Linking.{CanLink}
use Rattle.cp_tree_arena.proofs.Held.{held_at, held_within, held_some}

-- the slot of the root
abbrev pub slot_of : Shape → Option Slot
slot_of Tip = None
slot_of (Fork n s l c r) = Some s

-- the same cells, grouped in another way
pub held_as : (slots : List Slot) (cs ds : List Cell) → cs ≡ ds → Holds slots cs → Holds slots ds
held_as slots cs ds e h = subst (Holds slots) e h

module _ (slots : List Slot) (n : ℕ) (s : Slot) (l c r xs ys : List Cell) (h : Holds slots (xs ++ ((l ++ (n, s) ∷ (c ++ r)) ++ ys))) where
  -- the cells around a node
  pub around : Holds slots ((xs ++ l) ++ (n, s) ∷ ((c ++ r) ++ ys))
  around = held_as slots (xs ++ ((l ++ (n, s) ∷ (c ++ r)) ++ ys)) ((xs ++ l) ++ (n, s) ∷ ((c ++ r) ++ ys)) (simp append_assoc) h

  left_held : Holds slots (xs ++ (l ++ (n, s) ∷ ((c ++ r) ++ ys)))
  left_held = held_as slots (xs ++ ((l ++ (n, s) ∷ (c ++ r)) ++ ys)) (xs ++ (l ++ (n, s) ∷ ((c ++ r) ++ ys))) (simp append_assoc) h

  children_held : Holds slots ((xs ++ (l ++ (n, s) ∷ [])) ++ (c ++ (r ++ ys)))
  children_held = held_as slots (xs ++ ((l ++ (n, s) ∷ (c ++ r)) ++ ys)) ((xs ++ (l ++ (n, s) ∷ [])) ++ (c ++ (r ++ ys))) (simp append_assoc) h

  right_held : Holds slots ((xs ++ (l ++ (n, s) ∷ c)) ++ (r ++ ys))
  right_held = held_as slots (xs ++ ((l ++ (n, s) ∷ (c ++ r)) ++ ys)) ((xs ++ (l ++ (n, s) ∷ c)) ++ (r ++ ys)) (simp append_assoc) h

  node_at : slice_get slots n ≡ Some s
  node_at = held_at slots (xs ++ l) (n, s) ((c ++ r) ++ ys) around

  node_within : n < length slots
  node_within = held_within slots (xs ++ l) (n, s) ((c ++ r) ++ ys) around

  pub node_some : n < NO_SLOT
  node_some = held_some slots (xs ++ l) (n, s) ((c ++ r) ++ ys) around

-- what is read at a root
pub root_read : (slots : List Slot) (at : ℕ) (t : Shape) (xs ys : List Cell) → IsAt slots at t xs ys → slice_get slots at ≡ slot_of t
root_read slots at Tip xs ys k = ap (slice_get slots) k.root ∙ slice_get_past slots NO_SLOT k.holds.few
root_read slots at (Fork n s l c r) xs ys k = ap (slice_get slots) k.root ∙ node_at slots n s (cells l) (cells c) (cells r) xs ys k.holds

slot_height : (t : Shape) → height_in (slot_of t) ≡ height_of t
slot_height Tip = refl
slot_height (Fork n s l c r) = refl

slot_sums : (t : Shape) → IsSound t → sums_in (slot_of t) ≡ sums_of (edges_of t)
slot_sums Tip h = refl
slot_sums (Fork n s l c r) h = h.0.sums

-- the height that is kept
pub height_read : (slots : List Slot) (at : ℕ) (t : Shape) (xs ys : List Cell) → IsAt slots at t xs ys → height_in (slice_get slots at) ≡ height_of t
height_read slots at t xs ys k = ap height_in (root_read slots at t xs ys k) ∙ slot_height t

-- and the sums
pub sums_read : (slots : List Slot) (at : ℕ) (t : Shape) (xs ys : List Cell) → IsAt slots at t xs ys → sums_in (slice_get slots at) ≡ sums_of (edges_of t)
sums_read slots at t xs ys k = ap sums_in (root_read slots at t xs ys k) ∙ slot_sums t k.sound

-- no tree is higher than it has places
pub low_height : (t : Shape) → IsSound t → height_of t ≤ children_len (edges_of t)
low_height Tip h = omega arith
low_height (Fork n s l c r) h = h.0.low

-- ---- a node that is to be linked

module _ (by : ℕ) (slots : List Slot) (at : ℕ) (links : Links) (s : Slot) (l c r : Shape) (xs ys : List Cell) (k : CanLink by slots at links s l c r xs ys) where
  pub link_left : IsAt slots links.left.number l xs ((at, s) ∷ ((cells c ++ cells r) ++ ys))
  link_left = record { root = k.left; holds = left_held slots at s (cells l) (cells c) (cells r) xs ys k.holds; sound = k.before }

  pub link_children : IsAt slots links.children.number c (xs ++ (cells l ++ (at, s) ∷ [])) (cells r ++ ys)
  link_children = record { root = k.children; holds = children_held slots at s (cells l) (cells c) (cells r) xs ys k.holds; sound = k.below }

  pub link_right : IsAt slots links.right.number r (xs ++ (cells l ++ (at, s) ∷ cells c)) ys
  link_right = record { root = k.right; holds = right_held slots at s (cells l) (cells c) (cells r) xs ys k.holds; sound = k.after }

  pub link_node : slice_get slots at ≡ Some s
  link_node = node_at slots at s (cells l) (cells c) (cells r) xs ys k.holds

  pub link_within : at < length slots
  link_within = node_within slots at s (cells l) (cells c) (cells r) xs ys k.holds

-- a node that is linked
pub unlinked : (slots : List Slot) (at n : ℕ) (s : Slot) (l c r : Shape) (xs ys : List Cell) → IsAt slots at (Fork n s l c r) xs ys → CanLink 1 slots n s.links s l c r xs ys
unlinked slots at n s l c r xs ys k = record {
  holds = k.holds;
  left = k.sound.0.left;
  children = k.sound.0.children;
  right = k.sound.0.right;
  before = k.sound.1;
  below = k.sound.2;
  after = k.sound.3;
  good = k.sound.0.good;
  edges = k.sound.0.edges;
  near = k.sound.0.near;
}
