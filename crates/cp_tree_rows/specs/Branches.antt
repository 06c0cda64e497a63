-- The trees that are kept as rows.
use Rattle.std.specs.Prelude.{ℕ}
use Rattle.cp_model.specs.Tree.{Tree, weight}
use Rattle.cp_tree_rows.specs.declared.branch.RowBranch.{RowBranch}
use Rattle.cp_tree_rows.specs.Forest.{tree_of}

-- the tree of a root and its rows
abbrev pub tree_in : RowBranch → Tree
tree_in b = tree_of b.item b.rows.items

-- what it weighs
abbrev pub weight_in : RowBranch → ℕ
weight_in b = weight (tree_in b)
