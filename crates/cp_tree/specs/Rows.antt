-- The rows of a tree, and what is said of the subtree at a place.
use Rattle.std.specs.Prelude.{ℕ, ◌+◌, List, [], ◌∷◌, map, length, max, sum_by}
use Rattle.std.specs.List.{filter_map}
use Rattle.std.specs.declared.option.Option.{Option}
use Rattle.std.specs.declared.option.Option.TheVariants.{None, Some}
use Rattle.cp_model.specs.Place.{Label, Path}
use Rattle.cp_model.specs.Keyed as keyed
use Rattle.cp_model.specs.Subtrees.{below}
use Rattle.cp_model.specs.Tree.{Tree, weight_of}
use Rattle.cp_model.specs.declared.row.Row.{Row}
use Rattle.cp_model.specs.declared.row.Content.{Content}
use Rattle.cp_tree.specs.declared.reach.Reach.{Reach}

-- an entry of a tree as a row
abbrev pub entry_row : Path × Content → Row
entry_row e = record { path = e.0; content = e.1 }

-- the rows as entries
abbrev pub entries_in : List Row → List (Path × Content)
entries_in rows = map (λ r. (r.path, r.content)) rows

-- the tree of these rows
abbrev pub tree_of_rows : List Row → Tree
tree_of_rows rows = keyed.from_entries (entries_in rows)

-- the entries of a root alone
abbrev pub root_entries : Content → List (Path × Content)
root_entries c = ([], c) ∷ []

-- the tree of a root alone
abbrev pub single : Content → Tree
single c = keyed.from_entries (root_entries c)

-- the label of a path that has one
abbrev pub only_label : Path → Option Label
only_label [] = None
only_label (a ∷ []) = Some a
only_label (a ∷ b ∷ p) = None

-- the labels below a place, in order
unfoldable pub labels_at : Tree → Path → List Label
labels_at t p = filter_map (λ e. only_label e.0) (below p t)

-- ---- reach

-- the bytes of a path's labels, and 1 for each
abbrev pub path_size : Path → ℕ
path_size s = sum_by (λ a. length a + 1) s

-- the greatest of these numbers, and 0 where there are none
abbrev pub greatest : {X : Type 0} → (X → ℕ) → List X → ℕ
greatest f [] = 0
greatest f (x ∷ xs) = max (f x) (greatest f xs)

-- the most labels of a path of these entries
abbrev pub deepest : List (Path × Content) → ℕ
deepest es = greatest (λ e. length e.0) es

-- the nodes, the weight without the root's label, the most labels and the largest size of these entries
unfoldable pub reach_of : List (Path × Content) → Reach
reach_of es = record { nodes = length es; inner = sum_by weight_of es; depth = greatest (λ e. length e.0) es; size = greatest (λ e. path_size e.0) es }

-- how far the subtree at p reaches
abbrev pub reach_at : Tree → Path → Reach
reach_at t p = reach_of (below p t)
