-- The rows of the edges of a literal tree: how deep they lie, and how many they are.
use Rattle.std.specs.Prelude.{◌≡◌, ℕ, zero, suc, ◌+◌, ◌≤◌, ◌<◌, List, [], ◌∷◌, length, max}
use Rattle.std.proofs.Common.{sym, ap, ◌∙◌, arith, length-append, get_or, drop, add-one}
use Rattle.std.proofs.lemmas.List.{length-map}
use Rattle.std.proofs.Math.Seq.{drop-cons}
use Rattle.cp_model.specs.declared.row.Content.{Content}
use Rattle.cp_model.specs.declared.row.Content.TheVariants.{Node, Leaf}
use Rattle.cp_model.specs.declared.literal.Literal.{Literal}
use Rattle.cp_model.specs.declared.literal.Literal.TheVariants as literal
use Rattle.cp_model.specs.declared.literal.LitEdge.{LitEdge}
use Rattle.cp_model.specs.Literals.{literal_rows, rows_under, edge_rows}
use Rattle.cp_model.specs.Place.{Label, Path}
use Rattle.cp_tree.specs.Rows.{deepest}

-- what is left of a list from one of its elements on
pub drop-one : {X : Type 0} (xs : List X) (i : ℕ) (x : X) → i < length xs → x ≡ get_or xs i x → drop i xs ≡ x ∷ drop (i + 1) xs
drop-one xs i x h e = drop-cons xs i x h ∙ ap (λ y. y ∷ drop (suc i) xs) (sym e) ∙ ap (λ k. x ∷ drop k xs) (sym (add-one i))

-- rows lie one label deeper under a label
pub deepest-under : (a : Label) (r : Path × Content) (es : List (Path × Content)) → deepest (rows_under a (r ∷ es)) ≡ 1 + deepest (r ∷ es)
deepest-under a r [] = omega arith
deepest-under a r (e ∷ es) = ap (max (length (a ∷ r.0))) (deepest-under a e es) ∙ omega arith

-- and so do those of a literal
pub deepest-literal : (a : Label) (t : Literal) → deepest (rows_under a (literal_rows t)) ≡ 1 + deepest (literal_rows t)
deepest-literal a (literal.Leaf v) = deepest-under a ([], Leaf v) []
deepest-literal a (literal.Node below) = deepest-under a ([], Node) below

-- an edge's tree has no more rows than all its siblings
pub edge-fewer : (e : LitEdge) (rest : List LitEdge) (i : ℕ) (es : List LitEdge) → drop i es ≡ e ∷ rest → length (literal_rows e.tree) ≤ length (edge_rows es)
edge-fewer e rest i es t = fewer i es t
  where
    more : (d : LitEdge) (ds : List LitEdge) → length (edge_rows (d ∷ ds)) ≡ length (literal_rows d.tree) + length (edge_rows ds)
    more d ds = length-append (rows_under d.label (literal_rows d.tree)) (edge_rows ds) ∙ ap (λ n. n + length (edge_rows ds)) (length-map (literal_rows d.tree) (λ r. (d.label ∷ r.0, r.1)))

    fewer : (i : ℕ) (es : List LitEdge) → drop i es ≡ e ∷ rest → length (literal_rows e.tree) ≤ length (edge_rows es)
    fewer zero es t = (let all : length (edge_rows es) ≡ length (edge_rows (e ∷ rest)) = ap (λ ds. length (edge_rows ds)) t in omega (arith, all, more e rest))
    fewer (suc i) [] t = absurd (cc)
    fewer (suc i) (d ∷ ds) t = omega (arith, more d ds, fewer i ds t)
