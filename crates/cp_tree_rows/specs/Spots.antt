-- Where a row stands among its siblings, or would stand.
use Rattle.std.specs.Prelude.{◌≡◌, ℕ, ◌≤◌, List, [], ◌∷◌, ◌++◌, take, drop, length, ⊤}
use Rattle.std.proofs.Common.{T}
use Rattle.std.specs.declared.cmp.Ordering.TheVariants.{Less}
use Rattle.std.specs.FinMap.Entries.{below_all}
use Rattle.cp_path.specs.Text.{text_cmp}
use Rattle.cp_model.specs.declared.row.Content.{Content}
use Rattle.cp_model.specs.declared.row.Content.TheVariants.{Node}
use Rattle.cp_model.specs.Place.{Label, Path, child}
use Rattle.cp_model.specs.Keyed as keyed
use Rattle.cp_model.specs.Subtrees.{with_subtree}
use Rattle.cp_model.specs.Tree.{Tree}
use Rattle.cp_tree_rows.specs.declared.row.TreeRow.{TreeRow}
use Rattle.cp_tree_rows.specs.Forest.{edges, is_last, nests, is_part, tree_of}

-- the label of every edge comes before a
abbrev pub AllBefore : Label → List (Label × Tree) → Type 0
AllBefore a [] = ⊤
AllBefore a (e ∷ es) = (text_cmp e.0 a ≡ Less) × AllBefore a es

-- the row at i is that of the child a, and the rows before it are its earlier siblings with all below them
pub record IsChild (rs : List TreeRow) (a : Label) (i : ℕ) : Type 0 where
  pub row : TreeRow
  pub rest : List TreeRow
  pub at : drop i rs ≡ row ∷ rest
  pub label : row.label ≡ a
  pub front : T (nests (take i rs))

-- there is no child a, and its row would stand at i
pub record IsGap (rs : List TreeRow) (a : Label) (i : ℕ) : Type 0 where
  pub within : i ≤ length rs
  pub front : T (nests (take i rs))
  pub back : T (nests (drop i rs))
  pub before : AllBefore a (edges (take i rs))
  pub after : T (below_all text_cmp a (edges (drop i rs)))

-- no row, or those of one child a with all below it
abbrev pub IsPiece : Label → List TreeRow → Type 0
IsPiece a [] = ⊤
IsPiece a (r ∷ rs) = (r.label ≡ a) × T (is_last (r ∷ rs)) × T (nests (r ∷ rs))

-- the places of that child's tree, seen from it
abbrev pub piece_entries : List TreeRow → List (Path × Content)
piece_entries [] = []
piece_entries (r ∷ rs) = keyed.entries (tree_of r.item rs)

-- the rows are those before with the piece in place of the child a below p
pub record IsPut (old rs : List TreeRow) (last : ℕ) (p : Path) (a : Label) (piece : List TreeRow) : Type 0 where
  pub part : T (is_part Node last rs)
  pub tree : tree_of Node rs ≡ with_subtree (child p a) (piece_entries piece) (tree_of Node old)

-- from start to end are the rows of the child a below p, if there is one, and the rows above it count so many rows there
pub record IsOpened (old rs : List TreeRow) (last start end : ℕ) (p : Path) (a : Label) (added : ℕ) : Type 0 where
  pub order : start ≤ end
  pub within : end ≤ length rs
  pub long : length rs ≡ length old
  pub takes : (piece : List TreeRow) → length piece ≡ added → IsPiece a piece → IsPut old (take start rs ++ (piece ++ drop end rs)) last p a piece
