-- The lengths of trees, and that they are at most their weights.
use Rattle.cp_model.specs.declared.limits.TheConstants.{WEIGHT_MAX}
use Rattle.std.proofs.Common.{◌≡◌, ℕ, zero, suc, ◌+◌, ◌<◌, ◌≤◌, List, [], ◌∷◌, ◌++◌, refl, sym, ap, ◌∙◌, length, length-append, drop, get_or, sum_by, arith}
use Rattle.std.proofs.lemmas.List.{drop_more, length-map}
use Rattle.std.proofs.lemmas.List.Sums.{sum_by-cons, sum_by-append}
use Rattle.cp_path.specs.declared.value.Value.TheVariants.{Null, False, True, Whole, Text}
use Rattle.cp_model.specs.Place.{Path, Label}
use Rattle.cp_model.specs.Literals.{literal_rows, rows_under, edge_rows}
use Rattle.cp_model.specs.Tree.{weight_of}
use Rattle.cp_model.specs.declared.row.Content.{Content}
use Rattle.cp_model.specs.declared.row.Content.TheVariants.{Node, Leaf}
use Rattle.cp_model.specs.declared.literal.Literal.{Literal}
use Rattle.cp_model.specs.declared.literal.Literal.TheVariants as literal
use Rattle.cp_model.specs.declared.literal.LitEdge.{LitEdge}
use Rattle.cp_record.specs.Packed.{AreBelow, IsTreeOfRows}
use Rattle.cp_path.specs.declared.loc.Loc.{Loc}
use Rattle.cp_model.specs.declared.op.Op.{Op}
use Rattle.cp_model.specs.declared.op.Op.TheVariants.{Ins, Del, Copy}
use Rattle.cp_record.specs.Bytes.{branch_length, edge_length, tree_length, inserted_length, path_length, place_length, op_length}

abbrev row_length : Path × Content → ℕ
row_length e = edge_length e.0 + branch_length e.1

-- a place takes at most its weight
row_light : (p : Path) (x : Content) → row_length (p, x) ≤ weight_of (p, x)
row_light [] Node = omega arith
row_light [] (Leaf Null) = omega arith
row_light [] (Leaf False) = omega arith
row_light [] (Leaf True) = omega arith
row_light [] (Leaf (Whole n)) = omega arith
row_light [] (Leaf (Text bs)) = omega arith
row_light (a ∷ p) Node = omega arith
row_light (a ∷ p) (Leaf Null) = omega arith
row_light (a ∷ p) (Leaf False) = omega arith
row_light (a ∷ p) (Leaf True) = omega arith
row_light (a ∷ p) (Leaf (Whole n)) = omega arith
row_light (a ∷ p) (Leaf (Text bs)) = omega arith

-- rows take at most their weight
pub rows_light : (rows : List (Path × Content)) → tree_length rows ≤ sum_by weight_of rows
rows_light [] = omega arith
rows_light (e ∷ es) = omega (arith, rows_light es, row_light e.0 e.1, sum_by-cons weight_of e es, sum_by-cons row_length e es)

-- what stands below a node weighs at most what the tree weighs
pub node_weight : (t : Literal) (rows : List (Path × Content)) → t ≡ literal.Node rows → sum_by weight_of (literal_rows t) ≤ WEIGHT_MAX → sum_by weight_of rows ≤ WEIGHT_MAX
node_weight t rows e h =
    let whole : sum_by weight_of (literal_rows t) ≡ sum_by weight_of (([], Node) ∷ rows) = ap (λ (x : Literal). sum_by weight_of (literal_rows x)) e in
    omega (arith, h, whole, sum_by-cons weight_of ([], Node) rows)

-- what stands below a node takes at most what the tree weighs
pub node_light : (t : Literal) (rows : List (Path × Content)) → t ≡ literal.Node rows → sum_by weight_of (literal_rows t) ≤ WEIGHT_MAX → tree_length rows ≤ WEIGHT_MAX
node_light t rows e h =
    let whole : sum_by weight_of (literal_rows t) ≡ sum_by weight_of (([], Node) ∷ rows) = ap (λ (x : Literal). sum_by weight_of (literal_rows x)) e in
    omega (arith, h, whole, rows_light rows, sum_by-cons weight_of ([], Node) rows)

-- one label further down a row weighs no less
no_lighter : (a : Label) (p : Path) (x : Content) → weight_of (p, x) ≤ weight_of (a ∷ p, x)
no_lighter a [] x = omega arith
no_lighter a (b ∷ p) x = omega arith

-- one label further down rows weigh no less
under_weight : (a : Label) (rows : List (Path × Content)) → sum_by weight_of rows ≤ sum_by weight_of (rows_under a rows)
under_weight a [] = omega arith
under_weight a (e ∷ es) = omega (arith, under_weight a es, no_lighter a e.0 e.1, sum_by-cons weight_of e es, sum_by-cons weight_of (a ∷ e.0, e.1) (rows_under a es))

-- one label further down a row that is no root is as long
as_long : (a : Label) (p : Path) (x : Content) → 0 < length p → row_length (a ∷ p, x) ≡ row_length (p, x)
as_long a [] x h = absurd (omega arith)
as_long a (b ∷ p) x h = refl

-- one label further down rows that are no root are as long
under_below : (a : Label) (rows : List (Path × Content)) → AreBelow rows → tree_length (rows_under a rows) ≡ tree_length rows
under_below a [] h = refl
under_below a (e ∷ es) h = omega (arith, under_below a es h.1, as_long a e.0 e.1 h.0, sum_by-cons row_length e es, sum_by-cons row_length (a ∷ e.0, e.1) (rows_under a es))

-- below a label a tree is longer by that label
under_literal : (a : Label) (t : Literal) → IsTreeOfRows t → tree_length (rows_under a (literal_rows t)) ≡ 1 + length a + tree_length (literal_rows t)
under_literal a (literal.Leaf v) h = omega arith
under_literal a (literal.Node rows) h = omega (arith, under_below a rows h, sum_by-cons row_length ([], Node) rows, sum_by-cons row_length (a ∷ [], Node) (rows_under a rows))

all_below : (xs ys : List (Path × Content)) → AreBelow xs → AreBelow ys → AreBelow (xs ++ ys)
all_below [] ys h k = k
all_below (x ∷ xs) ys h k = (h.0, all_below xs ys h.1 k)

under_are_below : (a : Label) (rows : List (Path × Content)) → AreBelow (rows_under a rows)
under_are_below a [] = tt
under_are_below a (e ∷ es) = (omega arith, under_are_below a es)

-- no row of edges is a root
pub edges_below : (es : List LitEdge) → AreBelow (edge_rows es)
edges_below [] = tt
edges_below (e ∷ es) = all_below (rows_under e.label (literal_rows e.tree)) (edge_rows es) (under_are_below e.label (literal_rows e.tree)) (edges_below es)

-- the length of edges is that of the first and those of the others
pub edges_length : (e : LitEdge) (es : List LitEdge) → IsTreeOfRows e.tree → tree_length (edge_rows (e ∷ es)) ≡ 1 + length e.label + tree_length (literal_rows e.tree) + tree_length (edge_rows es)
edges_length e es h = omega (arith, under_literal e.label e.tree h, sum_by-append row_length (rows_under e.label (literal_rows e.tree)) (edge_rows es))

-- the first edge's tree and the other edges weigh no more than all
pub edges_weight : (e : LitEdge) (es : List LitEdge) → sum_by weight_of (literal_rows e.tree) + sum_by weight_of (edge_rows es) ≤ sum_by weight_of (edge_rows (e ∷ es))
edges_weight e es = omega (arith, under_weight e.label (literal_rows e.tree), sum_by-append weight_of (rows_under e.label (literal_rows e.tree)) (edge_rows es))

drop_one : (es : List LitEdge) (i : ℕ) (e : LitEdge) → i < length es → e ≡ get_or es i e → drop i es ≡ e ∷ drop (i + 1) es
drop_one es i e h f = drop_more es i e h ∙ ap (λ (x : LitEdge). x ∷ drop (i + 1) es) (sym f)

-- the length of the edges left is that of the next and those of the others
pub next_length : (es : List LitEdge) (i : ℕ) (e : LitEdge) → i < length es → e ≡ get_or es i e → IsTreeOfRows e.tree →
    tree_length (edge_rows (drop i es)) ≡ 1 + length e.label + tree_length (literal_rows e.tree) + tree_length (edge_rows (drop (i + 1) es))
next_length es i e h f g = ap (λ (l : List LitEdge). tree_length (edge_rows l)) (drop_one es i e h f) ∙ edges_length e (drop (i + 1) es) g

-- the next edge's tree and the others weigh no more than the edges left
pub next_weight : (es : List LitEdge) (i : ℕ) (e : LitEdge) → i < length es → e ≡ get_or es i e →
    sum_by weight_of (literal_rows e.tree) + sum_by weight_of (edge_rows (drop (i + 1) es)) ≤ sum_by weight_of (edge_rows (drop i es))
next_weight es i e h f = omega (arith, edges_weight e (drop (i + 1) es), ap (λ (l : List LitEdge). sum_by weight_of (edge_rows l)) (drop_one es i e h f))

-- an edge's tree has no more rows than all edges
pub next_count : (es : List LitEdge) (i : ℕ) (e : LitEdge) → i < length es → e ≡ get_or es i e → length (literal_rows e.tree) ≤ length (edge_rows es)
next_count [] i e h f = absurd (omega arith)
next_count (x ∷ es) zero e h f =
    let same : length (literal_rows e.tree) ≡ length (literal_rows x.tree) = ap (λ (z : LitEdge). length (literal_rows z.tree)) f in
    omega (arith, same, length-append (rows_under x.label (literal_rows x.tree)) (edge_rows es), length-map {B = Path × Content} (literal_rows x.tree) (λ r. (x.label ∷ r.0, r.1)))
next_count (x ∷ es) (suc i) e h f = omega (arith, next_count es i e (omega arith) f, length-append (rows_under x.label (literal_rows x.tree)) (edge_rows es))

-- the rows of a node, and those below it
pub node_count : (t : Literal) (rows : List (Path × Content)) → t ≡ literal.Node rows → length (literal_rows t) ≡ 1 + length rows
node_count t rows e = ap (λ (x : Literal). length (literal_rows x)) e ∙ omega arith

some_rows : (t : Literal) → 0 < length (literal_rows t)
some_rows (literal.Leaf v) = omega arith
some_rows (literal.Node rows) = omega arith

-- edges have rows
pub edges_some : (es : List LitEdge) → 0 < length es → 0 < length (edge_rows es)
edges_some [] h = absurd (omega arith)
edges_some (e ∷ es) h = omega (arith, next_count (e ∷ es) zero e h refl, some_rows e.tree)

-- what is inserted takes at most its weight
pub inserted_light : (t : Literal) → sum_by weight_of (literal_rows t) ≤ WEIGHT_MAX → inserted_length t ≤ WEIGHT_MAX
inserted_light (literal.Leaf v) h = omega (arith, h, row_light [] (Leaf v))
inserted_light (literal.Node []) h = omega arith
inserted_light (literal.Node (e ∷ es)) h = omega (arith, h, rows_light (([], Node) ∷ e ∷ es))

-- a node with edges is inserted as a tree
pub node_inserted : (t : Literal) (rows : List (Path × Content)) → t ≡ literal.Node rows → 0 < length rows → 5 + tree_length rows ≡ inserted_length t
node_inserted t [] e h = absurd (omega arith)
node_inserted t (x ∷ rows) e h =
    let whole : inserted_length t ≡ tree_length (([], Node) ∷ x ∷ rows) = ap inserted_length e in
    omega (arith, whole, sum_by-cons row_length ([], Node) (x ∷ rows))

-- ---- operations

-- the length of an insertion
pub ins_length : (o : Op) (p : Loc) (a : Label) (l : Literal) → o ≡ Ins p a l → op_length o ≡ 1 + path_length p.path + (1 + length a) + inserted_length l
unfolding op_length
ins_length o p a l e = ap op_length e

-- the length of a deletion
pub del_length : (o : Op) (a : Label) (p : Loc) → o ≡ Del a p → op_length o ≡ 1 + path_length p.path + (1 + length a)
unfolding op_length
del_length o a p e = ap op_length e

-- the length of a copy
pub copy_length : (o : Op) (q p : Loc) → o ≡ Copy q p → op_length o ≡ 1 + place_length q + path_length p.path
unfolding op_length
copy_length o q p e = ap op_length e
