-- The records that are appended for the places of an operation.
use Rattle.std.specs.Prelude.{ℕ, ◌+◌, ◌≤◌, ◌≡◌, List, [], ◌∷◌, ◌++◌, length, map, refl}
use Rattle.std.proofs.Common.{sym, ap, subst, ◌∙◌, append_assoc, append-nil, ◌<◌, get_or, take, Result, Ok, Err, OnOk}
use Rattle.std.proofs.lemmas.List.{map-append, take_more, take_all}
use Rattle.cp_model.specs.Place.{Label, Path, child}
use Rattle.cp_model.specs.Subtrees.{entries_under}
use Rattle.cp_model.specs.Literals.{literal_rows, rows_under, edge_rows}
use Rattle.cp_path.specs.declared.value.Value.{Value}
use Rattle.cp_model.specs.declared.row.Content.{Content}
use Rattle.cp_model.specs.declared.row.Content.TheVariants.{Node, Leaf}
use Rattle.cp_model.specs.declared.literal.Literal.{Literal}
use Rattle.cp_model.specs.declared.literal.Literal.TheVariants as literal
use Rattle.cp_model.specs.declared.literal.LitEdge.{LitEdge}
use Rattle.cp_model.specs.declared.record.Record.{Record}
use Rattle.cp_operation.specs.Appending.{Appended, Grown}

-- ---- appending

pub appended-none : (x : List Record) → Appended x x []
appended-none x = record { is = sym (append-nil x) }

pub appended-then : (x y z : List Record) (rs qs : List Record) → Appended x y rs → Appended y z qs → Appended x z (rs ++ qs)
appended-then x y z rs qs a b = record { is = b.is ∙ ap (λ l. l ++ qs) a.is ∙ append_assoc x rs qs }

pub appended-is : (x y : List Record) (rs qs : List Record) → rs ≡ qs → Appended x y rs → Appended x y qs
appended-is x y rs qs e a = subst (Appended x y) e a

-- nothing more
pub grown-same : (x y : List Record) → y ≡ x → Grown x y
grown-same x y e = record { more = []; is = e ∙ sym (append-nil x) }

-- where some are appended, there are more
pub grown-appended : (x y : List Record) (rs : List Record) → Appended x y rs → Grown x y
grown-appended x y rs a = record { more = rs; is = a.is }

-- some more, and then some
pub grown-then : (x y z : List Record) (rs : List Record) → Appended x y rs → Grown y z → Grown x z
grown-then x y z rs a g = record { more = rs ++ g.more; is = g.is ∙ ap (λ l. l ++ g.more) a.is ∙ append_assoc x rs g.more }

-- ---- literals

moved-under : (at : Path) (a : Label) (es : List (Path × Content)) → entries_under at (rows_under a es) ≡ entries_under (child at a) es
unfolding entries_under
moved-under at a [] = refl
moved-under at a (e ∷ es) = ap (λ q. (q, e.1) ∷ entries_under at (rows_under a es)) (sym (append_assoc at (a ∷ []) e.0)) ∙ ap (λ rs. (child at a ++ e.0, e.1) ∷ rs) (moved-under at a es)

moved-append : (at : Path) (es fs : List (Path × Content)) → entries_under at (es ++ fs) ≡ entries_under at es ++ entries_under at fs
unfolding entries_under
moved-append at es fs = map-append (λ (e : Path × Content). (at ++ e.0, e.1)) es fs

edges-snoc : (es : List LitEdge) (e : LitEdge) → edge_rows (es ++ e ∷ []) ≡ edge_rows es ++ rows_under e.label (literal_rows e.tree)
edges-snoc [] e = append-nil (rows_under e.label (literal_rows e.tree))
edges-snoc (d ∷ es) e = ap (λ rs. rows_under d.label (literal_rows d.tree) ++ rs) (edges-snoc es e) ∙ sym (append_assoc (rows_under d.label (literal_rows d.tree)) (edge_rows es) (rows_under e.label (literal_rows e.tree)))

-- the rows of one edge more
pub edges-more : (f : Path × Content → Record) (at path : Path) (es : List LitEdge) (i : ℕ) (e : LitEdge) → i < length es → e ≡ get_or es i e → path ≡ child at e.label →
    map f (entries_under at (edge_rows (take i es))) ++ map f (entries_under path (literal_rows e.tree)) ≡ map f (entries_under at (edge_rows (take (i + 1) es)))
edges-more f at path es i e h k p =
    ap (λ q. map f (entries_under at (edge_rows (take i es))) ++ map f (entries_under q (literal_rows e.tree))) p
    ∙ ap (λ rs. map f (entries_under at (edge_rows (take i es))) ++ map f rs) (sym (moved-under at e.label (literal_rows e.tree)))
    ∙ sym (map-append f (entries_under at (edge_rows (take i es))) (entries_under at (rows_under e.label (literal_rows e.tree))))
    ∙ ap (map f) (sym (moved-append at (edge_rows (take i es)) (rows_under e.label (literal_rows e.tree))))
    ∙ ap (λ rs. map f (entries_under at rs)) (sym (edges-snoc (take i es) e))
    ∙ ap (λ ds. map f (entries_under at (edge_rows ds))) (sym (take_more es i e h ∙ ap (λ y. take i es ++ y ∷ []) (sym k)))

-- before the first edge
pub edges-none : (f : Path × Content → Record) (at : Path) (es : List LitEdge) (x : List Record) → Appended x x (map f (entries_under at (edge_rows (take 0 es))))
unfolding entries_under
edges-none f at es x = appended-none x

-- after the last edge
pub edges-all : (f : Path × Content → Record) (at : Path) (es : List LitEdge) (i : ℕ) (below : List (Path × Content)) → length es ≤ i → edge_rows es ≡ below → map f (entries_under at (edge_rows (take i es))) ≡ map f (entries_under at below)
edges-all f at es i below h b = ap (λ ds. map f (entries_under at (edge_rows ds))) (take_all i es h) ∙ ap (λ rs. map f (entries_under at rs)) b

root-added : (f : Path × Content → Record) (at : Path) (c : Content) (es : List (Path × Content)) → f (at, c) ∷ map f (entries_under at es) ≡ map f (entries_under at (([], c) ∷ es))
unfolding entries_under
root-added f at c es = ap (λ q. f (q, c) ∷ map f (entries_under at es)) (sym (append-nil at))

-- a leaf is its root alone
pub leaf-added : (f : Path × Content → Record) (at : Path) (l : Literal) (v : Value) (x y : List Record) → l ≡ literal.Leaf v → Appended x y (f (at, Leaf v) ∷ []) → Appended x y (map f (entries_under at (literal_rows l)))
unfolding entries_under
leaf-added f at l v x y e a = subst (Appended x y) (root-added f at (Leaf v) [] ∙ ap (λ l. map f (entries_under at (literal_rows l))) (sym e)) a

-- the rows below a node come behind its own
pub node-added : {E : Type 0} (result : Result (Unit {0}) E) (f : Path × Content → Record) (at : Path) (l : Literal) (below : List (Path × Content)) (x y z : List Record) → l ≡ literal.Node below → Appended x y (f (at, Node) ∷ []) →
    OnOk result (Appended y z (map f (entries_under at below))) → OnOk result (Appended x z (map f (entries_under at (literal_rows l))))
node-added (Ok u) f at l below x y z e a b =
    subst (Appended x z) (root-added f at Node below ∙ ap (λ l. map f (entries_under at (literal_rows l))) (sym e)) (appended-then x y z (f (at, Node) ∷ []) (map f (entries_under at below)) a b)
node-added (Err d) f at l below x y z e a b = tt
