-- Rows in the order of their places, read as the edges below a root.
use Rattle.std.specs.Prelude.{ℕ, zero, suc, ◌+◌, Bool, true, false, ◌&&◌, ◌==◌, nat_lt, List, [], ◌∷◌, take, drop, length, sum_by}
use Rattle.std.proofs.Common.{T}
use Rattle.std.specs.FinMap.Entries.{is_sorted}
use Rattle.cp_path.specs.Text.{text_cmp}
use Rattle.cp_model.specs.declared.limits.TheConstants.{PLACE_WEIGHT}
use Rattle.cp_model.specs.declared.row.Content.{Content}
use Rattle.cp_model.specs.declared.row.Content.TheVariants.{Node, Leaf}
use Rattle.cp_model.specs.Place.{Label}
use Rattle.cp_model.specs.Tree.{Tree, text_bytes}
use Rattle.cp_tree.specs.Branch.{branch}
use Rattle.cp_tree_rows.specs.declared.row.TreeRow.{TreeRow}

-- the edges that at most k rows make: a row with as many rows below it as it says, and then its later siblings
abbrev pub edges_in : ℕ → List TreeRow → List (Label × Tree)
edges_in k [] = []
edges_in zero (r ∷ rs) = []
edges_in (suc k) (r ∷ rs) = (r.label, branch r.item (edges_in k (take r.below rs))) ∷ edges_in k (drop r.below rs)

-- the edges that the rows make
unfoldable pub edges : List TreeRow → List (Label × Tree)
edges rs = edges_in (length rs) rs

-- all later rows lie below the first
abbrev pub is_last : List TreeRow → Bool
is_last [] = false
is_last (r ∷ rs) = r.below == length rs

-- the number is 0, or one more than the index of the row of the last of these siblings
abbrev pub points_to_last : (List TreeRow → Bool) → ℕ → List TreeRow → Bool
points_to_last fits zero rs = true
points_to_last fits (suc i) rs = fits (take i rs) && is_last (drop i rs)

-- a leaf has no rows below it
abbrev pub is_bare : Content → List TreeRow → Bool
is_bare Node rs = true
is_bare (Leaf v) [] = true
is_bare (Leaf v) (r ∷ rs) = false

-- at most k rows nest: none says that it has more below it than there are, and labels rise among siblings
abbrev pub nests_in : ℕ → List TreeRow → Bool
nests_in k [] = true
nests_in zero (r ∷ rs) = false
nests_in (suc k) (r ∷ rs) =
    nat_lt r.below (suc (length rs))
    && is_bare r.item (take r.below rs)
    && is_sorted text_cmp (edges_in k (take r.below rs))
    && points_to_last (nests_in k) r.last (take r.below rs)
    && nests_in k (take r.below rs)
    && nests_in k (drop r.below rs)

-- the rows nest
unfoldable pub nests : List TreeRow → Bool
nests rs = nests_in (length rs) rs

-- these rows lie below a root with this content, and the number points to its last child, or is 0
abbrev pub is_part : Content → ℕ → List TreeRow → Bool
is_part x last rs = is_bare x rs && is_sorted text_cmp (edges rs) && points_to_last nests last rs && nests rs

-- labels rise among siblings
abbrev pub SortedRows : List TreeRow → Type 0
SortedRows rs = T (is_sorted text_cmp (edges rs))

-- the tree of a root and the rows below it
abbrev pub tree_of : Content → List TreeRow → Tree
tree_of x rs = branch x (edges rs)

-- what a row weighs
abbrev pub row_weight : TreeRow → ℕ
row_weight r = PLACE_WEIGHT + length r.label + text_bytes r.item

-- what these rows weigh
abbrev pub rows_weight : List TreeRow → ℕ
rows_weight rs = sum_by row_weight rs
