-- The source is a tree within every limit, which can be loaded under its name.
use Rattle.std.specs.Prelude.{ℕ, ◌≡◌, ◌+◌, List, [], ◌∷◌, ◌++◌, refl}
use Rattle.std.proofs.Common.{sym, ap, ◌∙◌, append_assoc, add-one}
use Rattle.std.specs.Fmt.{digits}
use Rattle.cp_path.specs.Place.{Path}
use Rattle.cp_model.specs.declared.literal.LitEdge.{LitEdge}
use Rattle.cp_model.specs.declared.row.Content.{Content}
use Rattle.cp_model.specs.declared.row.Content.TheVariants.{Node}
use Rattle.cp_model.specs.Literals.{edge_rows, literal_rows, rows_under}
use Rattle.cp_model.specs.Keyed.{from_entries}
use Rattle.cp_model.specs.Tree.{IsTree}
use Rattle.cp_model.specs.History.{IsLiteral, IsSource}
use Rattle.cp_gen.specs.declared.limits.TheConstants.{SOURCE_NODES}
use Rattle.cp_gen.specs.Source.{node_rows, nodes_below, source_name, source_rows, source_tree}
use Rattle.cp_gen.proofs.Tested.{PassAsLiteral, PassAsTree, literal-passed, tree-passed}

root-passes : PassAsLiteral (([], Node) ∷ [])
root-passes = record { sorted = tt; root = refl; parents = refl; texts = refl; labels = refl; numbers = refl }

-- `{}` is a literal
pub root-literal : IsLiteral (([], Node) ∷ [])
root-literal = literal-passed (([], Node) ∷ []) root-passes

source-passes : PassAsTree source_rows
unfolding source_rows digits
source-passes = record {
  literal = record { sorted = tt; root = refl; parents = refl; texts = refl; labels = refl; numbers = refl };
  places = refl;
  nodes = refl;
  weighs = refl;
}

-- the rows of the source are those of a literal
pub source-literal : IsLiteral source_rows
source-literal = literal-passed source_rows source-passes.literal

-- the source is a tree
pub source-is_tree : IsTree (from_entries source_rows)
source-is_tree = tree-passed source_rows source-passes

-- the source can be loaded under its name
pub source-loads : IsSource source_name source_tree
source-loads = record { name = refl; other = refl; tree = source-is_tree; places = source-is_tree.places }

edges-appended : (es fs : List LitEdge) → edge_rows (es ++ fs) ≡ edge_rows es ++ edge_rows fs
edges-appended [] fs = refl
edges-appended (e ∷ es) fs = ap (λ rows. rows_under e.label (literal_rows e.tree) ++ rows) (edges-appended es fs) ∙ sym (append_assoc (rows_under e.label (literal_rows e.tree)) (edge_rows es) (edge_rows fs))

-- one node more
pub node-added : (items new : List LitEdge) (e : LitEdge) (k : ℕ) → edge_rows items ≡ nodes_below k → edge_rows (e ∷ []) ≡ node_rows k → new ≡ items ++ e ∷ [] → edge_rows new ≡ nodes_below (k + 1)
node-added items new e k h n x =
    ap edge_rows x ∙ edges-appended items (e ∷ []) ∙ ap (λ r. r ++ edge_rows (e ∷ [])) h ∙ ap (λ r. nodes_below k ++ r) n ∙ sym (ap nodes_below (add-one k))

-- all nodes below the root
pub all-nodes : (rows : List (Path × Content)) (k : ℕ) → rows ≡ nodes_below k → k ≡ SOURCE_NODES → ([], Node) ∷ rows ≡ source_rows
unfolding source_rows
all-nodes rows k h e = ap (λ r. ([], Node) ∷ r) (h ∙ ap nodes_below e)
