-- How deep places of a tree and of a literal lie.
use Rattle.cp_path.specs.declared.limits.TheConstants.{LABELS_MAX}
use Rattle.std.specs.Prelude.{ℕ, zero, suc, ◌+◌, ◌≤◌, ◌≡◌, Bool, true, false, cond, ◌||◌, List, [], ◌∷◌, ◌++◌, length, map, max, is_some, refl}
use Rattle.std.proofs.Common.{sym, ap, ◌∙◌, arith, ◌<◌, get_or, drop, length-append}
use Rattle.std.specs.List.{list_any}
use Rattle.std.specs.declared.option.Option.TheVariants.{Some}
use Rattle.cp_path.specs.declared.loc.Loc.{Loc}
use Rattle.cp_model.specs.declared.row.Content.{Content}
use Rattle.cp_model.specs.declared.row.Row.{Row}
use Rattle.cp_model.specs.declared.literal.LitEdge.{LitEdge}
use Rattle.cp_model.specs.Place.{Path, at_target, child, below_place, over_limit, path_eq}
use Rattle.cp_path.specs.PathOrder.{path_eq_equiv}
use Rattle.cp_model.specs.Keyed.{look}
use Rattle.cp_model.proofs.Lookups.{find-below}
use Rattle.cp_model.specs.Subtrees.{below, is_there}
use Rattle.cp_model.specs.Literals.{literal_rows, rows_under, edge_rows}
use Rattle.cp_model.specs.Tree.{Tree, IsTree, reaches_over}
use Rattle.cp_model.proofs.Accepted.{at_most}
use Rattle.cp_tree.proofs.Edges.{deepest-literal}
use Rattle.cp_tree.specs.Rows.{greatest, deepest, entry_row}
use Rattle.cp_tree.proofs.Counted.{greatest-append}
use Rattle.cp_operation.proofs.RowsAloneLemmas.{root-below}
use Rattle.cp_operation.proofs.Limits.{over-reached}

no_left : (a b : Bool) → (a || b) ≡ false → a ≡ false
no_left true b e = absurd (cc)
no_left false b e = refl

-- where entries reach over no limit, they lie no deeper than places may
pub deepest-within : (p : Loc) (es : List (Path × Content)) → is_some (look [] es) ≡ true → reaches_over p es ≡ false → length p.path + deepest es ≤ LABELS_MAX
deepest-within p [] i n = absurd (cc)
deepest-within p (e ∷ es) i n = at_most LABELS_MAX _ (no_left _ _ (sym (over-reached p e es) ∙ n))

-- what no key passes, no entry passes
none-of : (f : Path → Bool) (es : List (Path × Content)) → ((s : Path) → is_some (look s es) ≡ true → f s ≡ false) → list_any (λ e. f e.0) es ≡ false
none-of f [] h = refl
none-of f (e ∷ es) h =
    ap (λ b. b || list_any (λ e. f e.0) es) (h e.0 (ap (λ b. is_some (cond b (Some e.1) (look e.0 es))) (path_eq_equiv.refl e.0)))
    ∙ none-of f es (λ s i. h s (later s (path_eq s e.0) i))
  where
    later : (s : Path) (b : Bool) → is_some (look s es) ≡ true → is_some (cond b (Some e.1) (look s es)) ≡ true
    later s true i = refl
    later s false i = i

-- a subtree of a tree reaches over no limit where it stands
pub below-reaches : (t : Tree) (q : Path) → IsTree t → reaches_over (at_target q) (below q t) ≡ false
below-reaches t q h = none-of (λ s. over_limit (below_place (at_target q) s)) (below q t) (λ s i. h.places (q ++ s) (ap is_some (sym (find-below q s t)) ∙ i))

-- and lies no deeper than places may
pub below-within : (t : Tree) (q : Path) → IsTree t → is_there t q ≡ true → length q + deepest (below q t) ≤ LABELS_MAX
below-within t q h i = deepest-within (at_target q) (below q t) (root-below t q i) (below-reaches t q h)

-- rows lie as deep as their entries
pub deepest-rows : (es : List (Path × Content)) → greatest (λ (r : Row). length r.path) (map entry_row es) ≡ deepest es
deepest-rows [] = refl
deepest-rows (e ∷ es) = ap (max (length e.0)) (deepest-rows es)

-- no element has more than the greatest
pub at-most-greatest : {X : Type 0} (f : X → ℕ) (xs : List X) (i : ℕ) (x : X) → i < length xs → x ≡ get_or xs i x → f x ≤ greatest f xs
at-most-greatest f [] i x h e = absurd (omega arith)
at-most-greatest f (y ∷ ys) zero x h e = omega (arith, ap f e)
at-most-greatest f (y ∷ ys) (suc i) x h e = omega (arith, at-most-greatest f ys i x (omega arith) e)

-- ---- literals

-- an edge's tree lies deeper than its root by one label less than all its siblings' rows
pub edge-deepest : (e : LitEdge) (rest : List LitEdge) (i : ℕ) (es : List LitEdge) → drop i es ≡ e ∷ rest → 1 + deepest (literal_rows e.tree) ≤ deepest (edge_rows es)
edge-deepest e rest zero es t = (
    let all : deepest (edge_rows es) ≡ deepest (edge_rows (e ∷ rest)) = ap (λ ds. deepest (edge_rows ds)) t in
    omega (arith, all, greatest-append (λ r. length r.0) (rows_under e.label (literal_rows e.tree)) (edge_rows rest), deepest-literal e.label e.tree))
edge-deepest e rest (suc i) [] t = absurd (cc)
edge-deepest e rest (suc i) (d ∷ ds) t = omega (arith, greatest-append (λ r. length r.0) (rows_under d.label (literal_rows d.tree)) (edge_rows ds), edge-deepest e rest i ds t)

-- the path of an edge is within the limit with what is below it
pub edge-within : (k : ℕ) (at path : Path) (e : LitEdge) (rest : List LitEdge) (i : ℕ) (es : List LitEdge) (below : List (Path × Content)) → drop i es ≡ e ∷ rest → edge_rows es ≡ below →
    path ≡ child at e.label → k + (length at + deepest below) ≤ LABELS_MAX → k + (length path + deepest (literal_rows e.tree)) ≤ LABELS_MAX
edge-within k at path e rest i es below t b p h =
    let long : length path ≡ length at + 1 = ap length p ∙ length-append at (e.label ∷ []) in
    omega (arith, long, edge-deepest e rest i es t, ap deepest b)

-- there is room for the label of an edge
pub edge-room : (k : ℕ) (at : Path) (e : LitEdge) (rest : List LitEdge) (i : ℕ) (es : List LitEdge) (below : List (Path × Content)) → drop i es ≡ e ∷ rest → edge_rows es ≡ below → k + (length at + deepest below) ≤ LABELS_MAX → length at < LABELS_MAX
edge-room k at e rest i es below t b h = omega (arith, edge-deepest e rest i es t, ap deepest b)
