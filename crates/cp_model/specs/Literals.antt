-- Literal trees, as the rows that they have.
use Rattle.std.specs.Prelude.{ℕ, List, [], ◌∷◌, ◌++◌, map}
use Rattle.cp_model.specs.declared.row.Content.{Content}
use Rattle.cp_model.specs.declared.row.Content.TheVariants.{Node, Leaf as leaf}
use Rattle.cp_model.specs.declared.literal.Literal.{Literal}
use Rattle.cp_model.specs.declared.literal.Literal.TheVariants as literal
use Rattle.cp_model.specs.declared.literal.LitEdge.{LitEdge}

-- the root of a literal, and the rows below it
abbrev pub literal_rows : Literal → List (List (List ℕ) × Content)
literal_rows (literal.Leaf v) = ([], leaf v) ∷ []
literal_rows (literal.Node below) = ([], Node) ∷ below

-- rows, one label further down
abbrev pub rows_under : List ℕ → List (List (List ℕ) × Content) → List (List (List ℕ) × Content)
rows_under a rows = map (λ r. (a ∷ r.0, r.1)) rows

-- the rows of each edge's tree below its label, edge by edge
abbrev pub edge_rows : List LitEdge → List (List (List ℕ) × Content)
edge_rows [] = []
edge_rows (e ∷ es) = rows_under e.label (literal_rows e.tree) ++ edge_rows es
