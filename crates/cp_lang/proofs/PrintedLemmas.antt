-- The text of a literal, edge by edge.
use Rattle.std.specs.Prelude.{ℕ, suc, zero, ◌≡◌, List, [], ◌∷◌, ◌++◌, map, codes, ⊤, true, false, refl}
use Rattle.std.proofs.Common.{T, ap, sym, subst, ◌∙◌, arith, append-nil}
use Rattle.std.specs.Ordering.{is_lt, ordering_then}
use Rattle.std.specs.declared.cmp.Ordering.TheVariants.{Less, Equal, Greater}
use Rattle.std.specs.declared.cmp.Ordering.{Ordering}
use Rattle.cp_path.specs.Text.{text_cmp}
use Rattle.std.specs.FinMap.Entries.{is_sorted, below_all}
use Rattle.cp_path.specs.Place.{Label, Path, path_cmp, label_eq}
use Rattle.cp_path.specs.Spelling.{value_text}
use Rattle.cp_path.specs.declared.value.Value.{Value}
use Rattle.cp_model.proofs.Sorted.{parts_of}
use Rattle.cp_model.specs.Literals.{literal_rows, rows_under, edge_rows}
use Rattle.cp_model.specs.Trees.{between, tree_at}
use Rattle.cp_model.proofs.Grouping.{neighbours_differ, edge_group, groups-edges}
use Rattle.cp_model.specs.declared.row.Content.{Content}
use Rattle.cp_model.specs.declared.row.Content.TheVariants.{Node, Leaf}
use Rattle.cp_model.specs.declared.literal.Literal.{Literal}
use Rattle.cp_model.specs.declared.literal.Literal.TheVariants as literal
use Rattle.cp_model.specs.declared.literal.LitEdge.{LitEdge}
use Rattle.cp_lang.specs.Printed.{Rows, group_text, AreWithin, IsOrdered, edge_text, edges_text, node_edges_text}
use Rattle.cp_lang.proofs.Layers.{sorted-under, sorted-after, less-apart}

-- the rows of each edge's tree are
abbrev pub AreOrdered : ℕ → List LitEdge → Type 0
AreOrdered n [] = ⊤
AreOrdered n (e ∷ es) = IsOrdered n (literal_rows e.tree) × AreOrdered n es

-- ---- groups of edges

-- a literal's first row is its root
root_first : (t : Literal) → (c : Content) × (below : Rows) × (literal_rows t ≡ ([], c) ∷ below)
root_first (literal.Leaf v) = (Leaf v, [], refl)
root_first (literal.Node below) = (Node, below, refl)

below-after : (k : Path) (xs ys : Rows) → T (below_all path_cmp k (xs ++ ys)) → T (below_all path_cmp k ys)
below-after k [] ys h = h
below-after k (x ∷ xs) ys h = below-after k xs ys (parts_of (is_lt (path_cmp k x.0)) (below_all path_cmp k (xs ++ ys)) h).1

one_less : (o : Ordering) → T (is_lt (ordering_then o Equal)) → o ≡ Less
one_less Less h = refl
one_less Equal h = absurd h
one_less Greater h = absurd h

-- where the rows of edges are in order, two edges that follow each other have other labels
apart_edges : (e f : LitEdge) (es : List LitEdge) → T (is_sorted path_cmp (edge_rows (e ∷ f ∷ es))) → label_eq e.label f.label ≡ false
apart_edges e f es h =
    let x = root_first e.tree in
    let y = root_first f.tree in
    let after = rows_under f.label y.1 ++ edge_rows es in
    let first : T (is_sorted path_cmp ((e.label ∷ [], x.0) ∷ rows_under e.label x.1 ++ (rows_under f.label (literal_rows f.tree) ++ edge_rows es))) =
    subst (λ rs. T (is_sorted path_cmp (rows_under e.label rs ++ (rows_under f.label (literal_rows f.tree) ++ edge_rows es)))) x.2 h in
    let both : T (is_sorted path_cmp ((e.label ∷ [], x.0) ∷ rows_under e.label x.1 ++ (f.label ∷ [], y.0) ∷ after)) =
    subst (λ rs. T (is_sorted path_cmp ((e.label ∷ [], x.0) ∷ rows_under e.label x.1 ++ (rows_under f.label rs ++ edge_rows es)))) y.2 first in
    let below = (parts_of (below_all path_cmp (e.label ∷ []) (rows_under e.label x.1 ++ (f.label ∷ [], y.0) ∷ after)) (is_sorted path_cmp (rows_under e.label x.1 ++ (f.label ∷ [], y.0) ∷ after)) both).0 in
    let one = below-after (e.label ∷ []) (rows_under e.label x.1) ((f.label ∷ [], y.0) ∷ after) below in
    less-apart e.label f.label (one_less (text_cmp e.label f.label) (parts_of (is_lt (path_cmp (e.label ∷ []) (f.label ∷ []))) (below_all path_cmp (e.label ∷ []) after) one).0)

-- so no two neighbours share a label
neighbours_apart : (es : List LitEdge) → T (is_sorted path_cmp (edge_rows es)) → neighbours_differ (map (λ e. e.label) es) ≡ true
neighbours_apart [] h = refl
neighbours_apart (e ∷ []) h = refl
neighbours_apart (e ∷ f ∷ es) h = rw (apart_edges e f es h) (neighbours_apart (f ∷ es) (sorted-after (rows_under e.label (literal_rows e.tree)) (edge_rows (f ∷ es)) h))

-- ---- limits of edges

within-front : (n : ℕ) (xs ys : Rows) → AreWithin n (xs ++ ys) → AreWithin n xs
within-front n [] ys h = tt
within-front n (x ∷ xs) ys h = (h.0, within-front n xs ys h.1)

within-after : (n : ℕ) (xs ys : Rows) → AreWithin n (xs ++ ys) → AreWithin n ys
within-after n [] ys h = h
within-after n (x ∷ xs) ys h = within-after n xs ys h.1

within-under : (n : ℕ) (a : Label) (rs : Rows) → AreWithin (suc n) (rows_under a rs) → AreWithin n rs
within-under n a [] h = tt
within-under n a (r ∷ rs) h = (omega (arith, h.0), within-under n a rs h.1)

edges_ordered : (n : ℕ) (es : List LitEdge) → T (is_sorted path_cmp (edge_rows es)) → AreWithin (suc n) (edge_rows es) → AreOrdered n es
edges_ordered n [] s h = tt
edges_ordered n (e ∷ es) s h =
    let front = rows_under e.label (literal_rows e.tree) in (
      record { sorted = sorted-under e.label (literal_rows e.tree) (edge_rows es) s; within = within-under n e.label (literal_rows e.tree) (within-front (suc n) front (edge_rows es) h) },
      edges_ordered n es (sorted-after front (edge_rows es) s) (within-after (suc n) front (edge_rows es) h),
    )

-- ---- a node

between-edges : (n : ℕ) (e : LitEdge) (es : List LitEdge) → between (codes ", ") (map (group_text n) (map edge_group (e ∷ es))) ≡ edges_text n [] (e ∷ es)
between-edges n e [] = sym (append-nil (edge_text n e))
between-edges n e (f ∷ es) = ap (λ bs. edge_text n e ++ (codes ", " ++ bs)) (between-edges n f es)

between_edges : (n : ℕ) (es : List LitEdge) → between (codes ", ") (map (group_text n) (map edge_group es)) ≡ edges_text n [] es
between_edges n [] = refl
between_edges n (e ∷ es) = between-edges n e es

-- what stands between the braces of a node is the text of its edges, whose rows are in order
pub node_edges : (n : ℕ) (es : List LitEdge) → IsOrdered (suc n) (([], Node) ∷ edge_rows es) → AreOrdered n es × (node_edges_text n (edge_rows es) ≡ edges_text n [] es)
node_edges n es h =
    let s = (parts_of (below_all path_cmp [] (edge_rows es)) (is_sorted path_cmp (edge_rows es)) h.sorted).1 in
    (edges_ordered n es s h.within.1, ap (λ gs. between (codes ", ") (map (group_text n) gs)) (groups-edges es (neighbours_apart es s)) ∙ between_edges n es)

-- the text of a node
pub node_text : (n : ℕ) (rows : Rows) → IsOrdered n (([], Node) ∷ rows) → (m : ℕ) × (n ≡ suc m) × (tree_at n (([], Node) ∷ rows) ≡ codes "{" ++ (node_edges_text m rows ++ codes "}"))
unfolding tree_at
node_text zero rows h = absurd (omega (arith, h.within.0))
node_text (suc m) rows h = (m, refl, refl)

-- the text of a value
pub leaf_text : (n : ℕ) (v : Value) → IsOrdered n (([], Leaf v) ∷ []) → tree_at n (([], Leaf v) ∷ []) ≡ value_text v
unfolding tree_at
leaf_text zero v h = absurd (omega (arith, h.within.0))
leaf_text (suc n) v h = refl
