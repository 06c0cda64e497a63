-- What siblings are seen as: their edges in order, and the height of the balanced tree that holds them.
use Rattle.std.specs.Prelude.{◌≡◌, ℕ, ◌+◌, ◌≤◌, max, List, [], ◌∷◌, ◌++◌, ⊤}
use Rattle.cp_model.specs.Place.{Label}
use Rattle.cp_model.specs.Tree.{Tree}
use Rattle.cp_tree.specs.Branch.{children_len}
use Rattle.cp_tree.specs.Sums.{sums_of, AreChildren}
use Rattle.cp_tree_share.specs.declared.forest.Fork.{Fork}
use Rattle.cp_tree_share.specs.declared.forest.Open.{Open}
use Rattle.cp_tree_share.specs.declared.forest.Open.TheVariants.{Tip, Full}

-- edges: labels, each with the tree that it leads to
abbrev pub Edges : Type 0
Edges = List (Label × Tree)

-- those before a sibling, it, and those after it
abbrev pub fork_edges : Fork → Edges
fork_edges f = f.left.0 ++ f.entry ∷ f.right.0

-- the edges and the height
abbrev pub siblings_of : Open → Edges × ℕ
siblings_of Tip = ([], 0)
siblings_of (Full f) = (fork_edges f.value, f.value.height)

-- neither height is more than this above the other
abbrev pub Near : ℕ → ℕ → ℕ → Type 0
Near by l r = (l ≤ r + by) × (r ≤ l + by)

-- the height h of what siblings of two heights settle to
abbrev pub Settles : ℕ → ℕ → ℕ → Type 0
Settles l r h = (max l r ≤ h) × (h ≤ max l r + 1) × (Near 1 l r → h ≡ max l r + 1)

-- the edges are in order and within the limits, the heights differ by one at most, and height and sums are as they are kept
pub record IsFork (f : Fork) : Type 0 where
  pub children : AreChildren (fork_edges f)
  pub high : f.height ≡ max f.left.1 f.right.1 + 1
  pub near : Near 1 f.left.1 f.right.1
  pub sums : f.sums ≡ sums_of (fork_edges f)
  pub low : f.height ≤ children_len (fork_edges f)

-- that of each fork
abbrev pub AreBalanced : Open → Type 0
AreBalanced Tip = ⊤
AreBalanced (Full f) = IsFork f.value
