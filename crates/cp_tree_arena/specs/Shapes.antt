-- Siblings in a balanced tree of slots, each with its children in another.
use Rattle.std.specs.Prelude.{◌≡◌, ℕ, ◌+◌, ◌≤◌, max, List, [], ◌∷◌, ◌++◌, ⊤}
use Rattle.cp_model.specs.Place.{Label}
use Rattle.cp_model.specs.Tree.{Tree}
use Rattle.cp_tree.specs.Branch.{branch, children_len}
use Rattle.cp_tree.specs.Good.{IsGood}
use Rattle.cp_tree.specs.Sums.{sums_of, AreChildren}
use Rattle.cp_tree_arena.specs.declared.slot.Slot.{Slot}
use Rattle.cp_tree_arena.specs.Slots.{NO_SLOT}

-- edges: labels, each with the tree that it leads to
abbrev pub Edges : Type 0
Edges = List (Label × Tree)

-- a slot with its number
abbrev pub Cell : Type 0
Cell = ℕ × Slot

-- no siblings, or a node's number and slot, the siblings before it, its children, and the siblings after it
pub data Shape : Type 0 where
  Tip : Shape
  Fork : ℕ → Slot → Shape → Shape → Shape → Shape

-- the number of the root
abbrev pub number_of : Shape → ℕ
number_of Tip = NO_SLOT
number_of (Fork n s l c r) = n

-- the height that the root keeps
abbrev pub height_of : Shape → ℕ
height_of Tip = 0
height_of (Fork n s l c r) = s.height

-- all slots, in order of their places
abbrev pub cells : Shape → List Cell
cells Tip = []
cells (Fork n s l c r) = cells l ++ (n, s) ∷ (cells c ++ cells r)

-- the siblings' edges around one
abbrev pub edges_around : Edges → Slot → Edges → Edges → Edges
edges_around l s c r = l ++ (s.label, branch s.content c) ∷ r

-- the siblings' edges
abbrev pub edges_of : Shape → Edges
edges_of Tip = []
edges_of (Fork n s l c r) = edges_around (edges_of l) s (edges_of c) (edges_of r)

-- neither height is more than this above the other
abbrev pub Near : ℕ → ℕ → ℕ → Type 0
Near by l r = (l ≤ r + by) × (r ≤ l + by)

-- the height h of what siblings of two heights settle to
abbrev pub Settles : ℕ → ℕ → ℕ → Type 0
Settles l r h = (max l r ≤ h) × (h ≤ max l r + 1) × (Near 1 l r → h ≡ max l r + 1)

-- the links of a slot lead to the siblings before it, its children and the siblings after it, the edges are in order and
-- within the limits, the heights differ by one at most, and height and sums are as they are kept
pub record IsFork (s : Slot) (l c r : Shape) : Type 0 where
  pub left : s.links.left.number ≡ number_of l
  pub children : s.links.children.number ≡ number_of c
  pub right : s.links.right.number ≡ number_of r
  pub good : IsGood s.content (edges_of c)
  pub edges : AreChildren (edges_around (edges_of l) s (edges_of c) (edges_of r))
  pub high : s.height ≡ max (height_of l) (height_of r) + 1
  pub near : Near 1 (height_of l) (height_of r)
  pub sums : s.sums ≡ sums_of (edges_around (edges_of l) s (edges_of c) (edges_of r))
  pub low : s.height ≤ children_len (edges_around (edges_of l) s (edges_of c) (edges_of r))

-- that of each node
abbrev pub IsSound : Shape → Type 0
IsSound Tip = ⊤
IsSound (Fork n s l c r) = IsFork s l c r × IsSound l × IsSound c × IsSound r
