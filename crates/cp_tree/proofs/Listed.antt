-- The rows of literal trees, and how deep they lie.
use Rattle.cp_path.specs.declared.limits.TheConstants.{LABELS_MAX}
use Rattle.std.specs.Prelude.{◌≡◌, ℕ, ◌+◌, ◌≤◌, List, [], ◌∷◌, ◌++◌, length, map, max}
use Rattle.std.proofs.Common.{append-nil, sym, ap, ◌∙◌, arith, append_assoc, length-append, drop, Result, Ok, Err, OnOk}
use Rattle.std.proofs.lemmas.List.{map-append}
use Rattle.std.proofs.Math.ListN.{drop_of_length-le}
use Rattle.cp_model.specs.declared.row.Content.{Content}
use Rattle.cp_model.specs.declared.row.Content.TheVariants.{Node}
use Rattle.cp_model.specs.declared.row.Row.{Row}
use Rattle.cp_model.specs.declared.literal.LitEdge.{LitEdge}
use Rattle.cp_model.specs.Literals.{literal_rows, rows_under, edge_rows}
use Rattle.cp_model.specs.Place.{Path, child}
use Rattle.cp_model.specs.Subtrees.{entries_under}
use Rattle.cp_tree.proofs.ListingLemmas.{entries_in-rows, moved-append, moved-below_label, moved-first, moved-root}
use Rattle.cp_tree.proofs.Counted.{greatest-append}
use Rattle.cp_tree.proofs.Edges.{deepest-literal, edge-fewer}
use Rattle.cp_tree.specs.Rows.{entry_row, entries_in, deepest}

-- rows that are those of entries have these entries
pub entries-listed : (rs vs : List Row) (es : List (Path × Content)) → rs ≡ vs → vs ≡ map entry_row es → entries_in rs ≡ es
entries-listed rs vs es r v = ap entries_in (r ∙ v) ∙ entries_in-rows es

-- one row more
pub entries-more : (rs : List Row) (r : Row) → entries_in (rs ++ r ∷ []) ≡ entries_in rs ++ (r.path, r.content) ∷ []
entries-more rs r = map-append (λ (x : Row). (x.path, x.content)) rs (r ∷ [])

-- rows listed from a root are all
pub entries-root : (at : Path) (rs first all : List Row) (es : List (Path × Content)) → rs ≡ all → at ≡ [] → first ≡ [] → entries_in all ≡ entries_in first ++ entries_under at es → entries_in rs ≡ es
entries-root at rs first all es r p f h = ap entries_in r ∙ h ∙ ap (λ xs. entries_in xs ++ entries_under at es) f ∙ ap (λ q. entries_under q es) p ∙ moved-root es

-- ---- depths

-- the most labels of an edge's rows, and of those of the others
pub deepest-edge : (e : LitEdge) (rest tail : List LitEdge) → tail ≡ e ∷ rest → deepest (edge_rows tail) ≡ max (1 + deepest (literal_rows e.tree)) (deepest (edge_rows rest))
deepest-edge e rest tail t =
    ap (λ es. deepest (edge_rows es)) t
    ∙ greatest-append (λ r. length r.0) (rows_under e.label (literal_rows e.tree)) (edge_rows rest)
    ∙ ap (λ n. max n (deepest (edge_rows rest))) (deepest-literal e.label e.tree)

-- ---- rows

-- after an edge's rows the rest is listed
pub rows-edge : (at path : Path) (e : LitEdge) (rest tail : List LitEdge) (old new total : List (Path × Content)) → tail ≡ e ∷ rest → path ≡ child at e.label →
    new ≡ old ++ entries_under path (literal_rows e.tree) → old ++ entries_under at (edge_rows tail) ≡ total → new ++ entries_under at (edge_rows rest) ≡ total
rows-edge at path e rest tail old new total t p n h =
    ap (λ xs. xs ++ entries_under at (edge_rows rest)) (n ∙ ap (λ q. old ++ entries_under q (literal_rows e.tree)) p ∙ ap (λ xs. old ++ xs) (sym (moved-below_label at e.label (literal_rows e.tree))))
    ∙ append_assoc old (entries_under at (rows_under e.label (literal_rows e.tree))) (entries_under at (edge_rows rest))
    ∙ ap (λ xs. old ++ xs) (sym (moved-append at (rows_under e.label (literal_rows e.tree)) (edge_rows rest)))
    ∙ ap (λ es. old ++ entries_under at (edge_rows es)) (sym t)
    ∙ h

-- the row of a root
pub rows-root : (at : Path) (c : Content) (rs : List Row) (r : Row) (new : List Row) (es : List (Path × Content)) → new ≡ rs ++ r ∷ [] → r.path ≡ at → r.content ≡ c →
    entries_in new ++ entries_under at es ≡ entries_in rs ++ entries_under at (([], c) ∷ es)
rows-root at c rs r new es n p is =
    ap (λ x. entries_in x ++ entries_under at es) n
    ∙ ap (λ x. x ++ entries_under at es) (entries-more rs r)
    ∙ append_assoc (entries_in rs) ((r.path, r.content) ∷ []) (entries_under at es)
    ∙ (λ i. entries_in rs ++ (p i, is i) ∷ entries_under at es)
    ∙ ap (λ x. entries_in rs ++ x) (sym (moved-first at c es))

no_rows : (at : Path) (xs : List (Path × Content)) → xs ++ entries_under at [] ≡ xs
unfolding entries_under
no_rows at xs = append-nil xs

-- a leaf is its root alone
pub rows-leaf : (at : Path) (c : Content) (rs : List Row) (r : Row) (new : List Row) → new ≡ rs ++ r ∷ [] → r.path ≡ at → r.content ≡ c → entries_in new ≡ entries_in rs ++ entries_under at (([], c) ∷ [])
rows-leaf at c rs r new n p is = sym (no_rows at (entries_in new)) ∙ rows-root at c rs r new [] n p is

-- after the last edge all is listed
pub rows-end : (at : Path) (edges : List LitEdge) (i : ℕ) (new old : List (Path × Content)) (below : List (Path × Content)) → length edges ≤ i → edge_rows edges ≡ below →
    new ++ entries_under at (edge_rows (drop i edges)) ≡ old ++ entries_under at (edge_rows edges) → new ≡ old ++ entries_under at below
rows-end at edges i new old below l b h =
    sym (no_rows at new) ∙ ap (λ es. new ++ entries_under at (edge_rows es)) (sym (drop_of_length-le edges l)) ∙ h ∙ ap (λ es. old ++ entries_under at es) b

-- the rows below a node come after its own
pub rows-node : {E : Type 0} (result : Result (Unit {0}) E) (at : Path) (rs new all : List Row) (below : List (Path × Content)) (r : Row) → new ≡ rs ++ r ∷ [] → r.path ≡ at → r.content ≡ Node →
    OnOk result (entries_in all ≡ entries_in new ++ entries_under at below) → OnOk result (entries_in all ≡ entries_in rs ++ entries_under at (([], Node) ∷ below))
rows-node (Ok u) at rs new all below r n p c h = h ∙ rows-root at Node rs r new below n p c
rows-node (Err e) at rs new all below r n p c h = tt

-- an edge's tree has no more rows than all its siblings
pub rows-fewer : (e : LitEdge) (rest edges : List LitEdge) (i : ℕ) (below : List (Path × Content)) → drop i edges ≡ e ∷ rest → edge_rows edges ≡ below → length (literal_rows e.tree) ≤ length below
rows-fewer e rest edges i below t b =
    let all : length (edge_rows edges) ≡ length below = ap length b in
    omega (arith, all, edge-fewer e rest i edges t)

-- an edge's tree lies no deeper than the rows of its siblings
pub path-within : (at path : Path) (e : LitEdge) (rest tail : List LitEdge) → tail ≡ e ∷ rest → path ≡ child at e.label → length at + deepest (edge_rows tail) ≤ LABELS_MAX → length path + deepest (literal_rows e.tree) ≤ LABELS_MAX
path-within at path e rest tail t p h =
    let long : length path ≡ length at + 1 = ap length p ∙ length-append at (e.label ∷ []) in
    omega (arith, long, deepest-edge e rest tail t)
