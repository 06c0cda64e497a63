-- Rows that a tree is read from, and siblings that a forest is made of.
use Rattle.cp_path.specs.declared.limits.TheConstants.{TEXT_MAX}
use Rattle.std.specs.Prelude.{◌≡◌, ℕ, ◌+◌, ◌*◌, ◌≤◌, ◌<◌, ◌^◌, List, [], ◌∷◌, ◌++◌, length, map, ⊤}
use Rattle.cp_model.specs.Place.{Label, Path}
use Rattle.cp_model.specs.Subtrees.{entries_under}
use Rattle.cp_model.specs.Tree.{Tree, text_bytes}
use Rattle.cp_model.specs.declared.row.Content.{Content}
use Rattle.cp_model.specs.declared.row.Row.{Row}
use Rattle.cp_tree.specs.Branch.{branch, child_rows}
use Rattle.cp_tree.specs.Good.{IsGood}
use Rattle.cp_tree.specs.Rows.{entry_row}
use Rattle.cp_tree.specs.Sums.{AreChildren}
use Rattle.cp_tree_share.specs.Siblings.{Edges}

-- ---- rows

-- each text of these rows is within its limit
abbrev pub AreShort : List Row → Type 0
AreShort [] = ⊤
AreShort (r ∷ rows) = (text_bytes r.content ≤ TEXT_MAX) × AreShort rows

-- the first of these rows, if there is one, has at most so many labels
abbrev pub BeginAbove : ℕ → List Row → Type 0
BeginAbove depth [] = ⊤
BeginAbove depth (r ∷ rows) = length r.path ≤ depth

-- the rows of these edges, at a place
abbrev pub rows_at : Path → Edges → List Row
rows_at place edges = map entry_row (entries_under place (child_rows edges))

-- the rows are those of these edges, at a place of so many labels, and then the others, which don't begin below that place
pub record AreBelow (depth : ℕ) (rows : List Row) (edges : Edges) (others : List Row) : Type 0 where
  pub place : Path
  pub deep : length place ≡ depth
  pub parts : rows ≡ rows_at place edges ++ others
  pub above : BeginAbove depth others
  pub children : AreChildren edges

-- the rows begin with those of some edges at a place of so many labels
pub record HaveEdges (depth : ℕ) (rows : List Row) : Type 0 where
  pub edges : Edges
  pub others : List Row
  pub below : AreBelow depth rows edges others

-- they are the edges of a tree with this root
pub record HaveTree (depth : ℕ) (root : Content) (rows : List Row) : Type 0 where
  pub edges : Edges
  pub others : List Row
  pub below : AreBelow depth rows edges others
  pub good : IsGood root edges

-- the row is the first of the first edge
pub record HaveEdge (row : Row) (rows : List Row) : Type 0 where
  pub depth : ℕ
  pub edge : Label × Tree
  pub edges : Edges
  pub others : List Row
  pub below : AreBelow depth (row ∷ rows) (edge ∷ edges) others

-- the edges are put behind what was there, and the others are left
abbrev pub AreRead : ℕ → List Row → Edges → Edges → List Row → Type 0
AreRead depth rows old new left = (edges : Edges) (others : List Row) → AreBelow depth rows edges others → (new ≡ old ++ edges) × (left ≡ others)

-- the tree is that of the root and its edges, and the others are left
abbrev pub IsRead : ℕ → Content → List Row → Tree → List Row → Type 0
IsRead depth root rows tree left = (edges : Edges) (others : List Row) → AreBelow depth rows edges others → (tree ≡ branch root edges) × (left ≡ others)

-- the first edge is put behind what was there, and the rows of the other edges are left
abbrev pub IsEdgeRead : Row → List Row → Edges → Edges → List Row → Type 0
IsEdgeRead row rows old new left =
    (depth : ℕ) (edge : Label × Tree) (edges : Edges) (others : List Row) (b : AreBelow depth (row ∷ rows) (edge ∷ edges) others) → (new ≡ old ++ edge ∷ []) × (left ≡ rows_at b.place edges ++ others)

-- ---- siblings

-- the last so many of the entries are siblings
pub record HaveSiblings (count : ℕ) (entries : Edges) : Type 0 where
  pub front : Edges
  pub siblings : Edges
  pub parts : entries ≡ front ++ siblings
  pub counted : length siblings ≡ count
  pub children : AreChildren siblings

-- the last so many of the entries are taken, and those before them are left
abbrev pub AreTaken : ℕ → Edges → Edges → Edges → Type 0
AreTaken count entries taken left = (front siblings : Edges) → entries ≡ front ++ siblings → length siblings ≡ count → (taken ≡ siblings) × (left ≡ front)

-- the height is the least that so many siblings can have
pub record IsLow (count height : ℕ) : Type 0 where
  pub enough : count < 2 ^ height
  pub least : 2 ^ height ≤ 2 * count + 1
