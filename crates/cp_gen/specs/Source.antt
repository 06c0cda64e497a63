-- The source that drawn scripts copy from: its name, its nodes and its tree.
use Rattle.std.specs.Prelude.{ℕ, zero, suc, pos, ◌*◌, List, [], ◌∷◌, ◌++◌, codes, decimal}
use Rattle.cp_path.specs.Place.{Label, Path}
use Rattle.cp_path.specs.declared.loc.Loc.{Loc}
use Rattle.cp_path.specs.declared.value.Value.TheVariants.{Whole}
use Rattle.cp_model.specs.Keyed as keyed
use Rattle.cp_model.specs.Tree.{Tree}
use Rattle.cp_model.specs.declared.row.Content.{Content}
use Rattle.cp_model.specs.declared.row.Content.TheVariants.{Node, Leaf}
use Rattle.cp_gen.specs.declared.limits.TheConstants.{SOURCE_NODES}

-- the name of the source is G
abbrev pub source_name : List ℕ
source_name = codes "G"

-- the place at this path of the source
abbrev pub at_source : Path → Loc
at_source p = record { db = source_name; path = p }

-- the label of a node: g and its number
abbrev pub source_label : ℕ → Label
source_label k = codes "g" ++ decimal k

-- a node with the leaves a, its number, and b, the number times itself
abbrev pub node_rows : ℕ → List (Path × Content)
node_rows k =
    (source_label k ∷ [], Node) ∷ (source_label k ∷ codes "a" ∷ [], Leaf (Whole (pos k))) ∷ (source_label k ∷ codes "b" ∷ [], Leaf (Whole (pos (k * k)))) ∷ []

-- the rows of the first so many nodes
abbrev pub nodes_below : ℕ → List (Path × Content)
nodes_below zero = []
nodes_below (suc k) = nodes_below k ++ node_rows k

-- the rows of the source: its root, and its nodes in order
unfoldable pub source_rows : List (Path × Content)
source_rows = ([], Node) ∷ nodes_below SOURCE_NODES

-- the tree of the source
abbrev pub source_tree : Tree
source_tree = keyed.from_entries source_rows
