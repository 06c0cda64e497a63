-- A tree as one line of text.
use Rattle.cp_path.specs.declared.limits.TheConstants.{LABELS_MAX}
use Rattle.std.specs.Prelude.{◌+◌, ℕ, suc, zero, List, [], ◌∷◌, ◌++◌, codes, map, if◌then◌else◌}
use Rattle.cp_path.specs.Place.{Label, Path, label_eq}
use Rattle.cp_path.specs.Spelling.{label_text, value_text}
use Rattle.cp_model.specs.declared.row.Row.{Row}
use Rattle.cp_model.specs.declared.row.Content.{Content}
use Rattle.cp_model.specs.declared.row.Content.TheVariants.{Node, Leaf}

-- the pieces in order, with this text between them
abbrev pub between : List ℕ → List (List ℕ) → List ℕ
between s [] = []
between s (x ∷ []) = x
between s (x ∷ y ∷ xs) = x ++ (s ++ between s (y ∷ xs))

-- the rows below one label, seen from there
pub record Group : Type 0 where
  pub label : Label
  pub rows : List (Path × Content)

-- into the group of this label, if it comes first, else into one of its own
abbrev pub into_groups : Label → Path × Content → List Group → List Group
into_groups a r [] = record { label = a; rows = r ∷ [] } ∷ []
into_groups a r (g ∷ gs) =
    if label_eq a g.label then record { label = a; rows = r ∷ g.rows } ∷ gs else record { label = a; rows = r ∷ [] } ∷ g ∷ gs

-- the rows below a root, by their first label
abbrev pub groups : List (Path × Content) → List Group
groups [] = []
groups (([], c) ∷ rows) = groups rows
groups ((a ∷ p, c) ∷ rows) = into_groups a (p, c) (groups rows)

-- labels that a place has at most, and the root
abbrev pub levels : ℕ
levels = LABELS_MAX + 1

-- a value, `{}`, or each label with its tree in braces; a tree of rows in order, of at most so many levels
unfoldable pub tree_at : ℕ → List (Path × Content) → List ℕ
tree_at zero rows = []
tree_at (suc n) [] = []
tree_at (suc n) ((p, Leaf v) ∷ rows) = value_text v
tree_at (suc n) ((p, Node) ∷ rows) = codes "{" ++ (between (codes ", ") (map (λ g. label_text g.label ++ (codes " : " ++ tree_at n g.rows)) (groups rows)) ++ codes "}")

-- the tree of these rows
abbrev pub tree_text : List Row → List ℕ
tree_text rows = tree_at levels (map (λ r. (r.path, r.content)) rows)
