-- The text of a literal, edge by edge.
use Rattle.std.specs.Prelude.{ℕ, ◌<◌, List, [], ◌∷◌, ◌++◌, map, length, codes, ⊤}
use Rattle.std.proofs.Common.{T}
use Rattle.std.specs.FinMap.Entries.{is_sorted}
use Rattle.cp_path.specs.Place.{Path, path_cmp}
use Rattle.cp_path.specs.Spelling.{label_text}
use Rattle.cp_model.specs.Literals.{literal_rows}
use Rattle.cp_model.specs.Trees.{groups, between, tree_at, Group}
use Rattle.cp_model.specs.declared.row.Content.{Content}
use Rattle.cp_model.specs.declared.literal.LitEdge.{LitEdge}

-- ---- reading

-- the text of a label and its tree
abbrev pub group_text : ℕ → Group → List ℕ
group_text m g = label_text g.label ++ (codes " : " ++ tree_at m g.rows)

-- ---- the levels

-- the rows of a tree, each with its way
abbrev pub Rows : Type 0
Rows = List (Path × Content)

-- each way has fewer labels than this
abbrev pub AreWithin : ℕ → Rows → Type 0
AreWithin n [] = ⊤
AreWithin n (r ∷ rows) = (length r.0 < n) × AreWithin n rows

-- rows in order, with fewer labels on each way than this
pub record IsOrdered (n : ℕ) (rows : Rows) : Type 0 where
  pub sorted : T (is_sorted path_cmp rows)
  pub within : AreWithin n rows

-- a label and its tree
abbrev pub edge_text : ℕ → LitEdge → List ℕ
edge_text n e = label_text e.label ++ (codes " : " ++ tree_at n (literal_rows e.tree))

-- the edges, the first behind this text, each other one behind a comma
abbrev pub edges_text : ℕ → List ℕ → List LitEdge → List ℕ
edges_text n before [] = []
edges_text n before (e ∷ es) = before ++ (edge_text n e ++ edges_text n (codes ", ") es)

-- what stands between the braces of a node, by the rows below it
abbrev pub node_edges_text : ℕ → Rows → List ℕ
node_edges_text n rows = between (codes ", ") (map (group_text n) (groups rows))
