-- The rows below a node, label by label, as a walk over a tree's rows in order finds them.
use Rattle.cp_path.specs.declared.limits.TheConstants.{LABELS_MAX}
use Rattle.std.specs.Prelude.{ℕ, ◌+◌, ◌≡◌, ◌<◌, List, [], ◌∷◌, ◌++◌, Bool, false, not, codes, map, length, drop, if◌then◌else◌}
use Rattle.cp_path.specs.Place.{Label, Path, label_eq}
use Rattle.cp_path.specs.Spelling.{label_text}
use Rattle.cp_model.specs.declared.row.Row.{Row}
use Rattle.cp_model.specs.declared.row.Content.{Content}
use Rattle.cp_model.specs.Trees.{groups, tree_at}

-- a row, seen from this many labels down
abbrev pub rows_seen : ℕ → Row → Path × Content
rows_seen depth r = (drop depth r.path, r.content)

-- rows, seen from this many labels down
abbrev pub all_seen : ℕ → List Row → List (Path × Content)
all_seen depth rows = map (rows_seen depth) rows

-- the row lies below another label
abbrev pub leaves : Label → Path × Content → Bool
leaves a ([], c) = false
leaves a (b ∷ p, c) = not (label_eq b a)

-- the rows that come before one below another label
abbrev pub run_length : Label → List (Path × Content) → ℕ
run_length a [] = 0
run_length a (r ∷ rows) = if leaves a r then 0 else run_length a rows + 1

-- the label of an edge and the tree below it, of so many levels
abbrev pub edge_text : ℕ → Label → List (Path × Content) → List ℕ
edge_text n a rows = label_text a ++ (codes " : " ++ tree_at n rows)

-- the edges of a node, of whose rows these are all but its own
abbrev pub edge_texts : ℕ → List (Path × Content) → List (List ℕ)
edge_texts n rows = map (λ g. edge_text n g.label g.rows) (groups rows)

-- the first edge of a node is this label with the tree of the run, and the others are those of the rows after it
pub record IsNextRun (depth : ℕ) (rows : List Row) (a : Label) (run after : List Row) : Type 0 where
  pub edges_are : (n : ℕ) → edge_texts n (all_seen depth rows) ≡ edge_text n a (all_seen (depth + 1) run) ∷ edge_texts n (all_seen depth after)
  pub fewer : length after < length rows
  pub deep : depth < LABELS_MAX
