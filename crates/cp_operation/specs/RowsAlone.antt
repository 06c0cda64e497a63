-- The rows of a step of one operation, in full and reduced.
use Rattle.std.specs.Prelude.{◌<◌, List, [], ◌∷◌, ◌++◌, length, map, if◌then◌else◌, ⊤}
use Rattle.cp_path.specs.declared.limits.TheConstants.{LABELS_MAX}
use Rattle.cp_model.specs.declared.kind.Kind.{Kind}
use Rattle.cp_model.specs.declared.kind.Kind.TheVariants as kind
use Rattle.cp_model.specs.declared.op.Op.{Op}
use Rattle.cp_model.specs.declared.op.Op.TheVariants.{Ins, Del, Copy}
use Rattle.cp_model.specs.Place.{Path, place_eq, child, below_place}
use Rattle.cp_model.specs.Subtrees.{below}
use Rattle.cp_model.specs.Literals.{literal_rows}
use Rattle.cp_model.specs.Tree.{Tree, Source, database, subtree_at}
use Rattle.cp_model.specs.declared.record.RowMark.{RowMark as Mark}
use Rattle.cp_model.specs.declared.record.RowMark.TheVariants.{Made as I, Copied as C, Gone as D}

-- a row behind p for each entry, of what follows p
abbrev pub marks_below : {X : Type 0} → Path → (Path → Mark) → List (Path × X) → List (Path × Mark)
marks_below p f es = map (λ e. (p ++ e.0, f e.0)) es

-- the full rows of one operation: what is inserted, what is gone, or what each place is a copy of
unfoldable pub op_rows : List Source → Tree → Op → List (Path × Mark)
op_rows ss t (Ins p a l) = marks_below (child p.path a) (λ _. I) (literal_rows l)
op_rows ss t (Del a p) = marks_below (child p.path a) (λ _. D) (below (child p.path a) t)
op_rows ss t (Copy q p) = if place_eq q p then [] else marks_below p.path (λ s. C (below_place q s)) (subtree_at (database ss t q) q.path)

-- the reduced rows of one operation: of the place that it wrote, if it has changed it
unfoldable pub top_rows : Op → List (Path × Mark)
top_rows (Ins p a l) = (child p.path a, I) ∷ []
top_rows (Del a p) = (child p.path a, D) ∷ []
top_rows (Copy q p) = if place_eq q p then [] else (p.path, C q) ∷ []

-- the rows of one operation in each kind
abbrev pub rows_in : Kind → List Source → Tree → Op → List (Path × Mark)
rows_in kind.N ss t op = op_rows ss t op
rows_in kind.T ss t op = op_rows ss t op
rows_in kind.H ss t op = top_rows op
rows_in kind.HT ss t op = top_rows op

-- there may be one label more below the place of an insertion or a deletion
abbrev pub HasRoom : Op → Type 0
HasRoom (Ins p a l) = length p.path < LABELS_MAX
HasRoom (Del a p) = length p.path < LABELS_MAX
HasRoom (Copy q p) = ⊤
