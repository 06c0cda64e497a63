-- The weight of a tree after rows are put into it.
use Rattle.std.specs.Prelude.{◌+◌, ◌≡◌, true, List, [], ◌∷◌, ◌++◌, sum_by, is_some, refl}
use Rattle.std.proofs.Common.{sym, ap, ◌∙◌, T, arith}
use Rattle.std.specs.declared.option.Option.TheVariants.{None}
use Rattle.std.specs.Ordering.{is_lt}
use Rattle.std.specs.FinMap.Entries.{is_sorted, below_all}
use Rattle.std.proofs.lemmas.List.Sums.{sum_by-cons}
use Rattle.cp_model.specs.Place.{Path, Label, path_cmp}
use Rattle.cp_model.specs.Keyed as keyed
use Rattle.cp_model.specs.Keyed.{look}
use Rattle.cp_model.specs.Closed.{Closed}
use Rattle.cp_model.specs.Subtrees.{below, entries_under, with_subtree, is_there}
use Rattle.cp_model.specs.Tree.{Tree, weight, weight_of, last_bytes, text_bytes}
use Rattle.cp_model.proofs.Strips.{append-nil}
use Rattle.cp_model.proofs.Lookups.{find-below}
use Rattle.cp_model.proofs.SumsLemmas.{sum_by-moved, weight-replaced, weight-replaced_new}
use Rattle.cp_model.proofs.Sorted.{parts_of, sorted-below, root-first}
use Rattle.cp_model.specs.declared.row.Content.{Content}

-- the last label of a longer path is that of its end
pub last_bytes-append : (p : Path) (a : Label) (s : Path) → last_bytes (p ++ a ∷ s) ≡ last_bytes (a ∷ s)
last_bytes-append [] a s = refl
last_bytes-append (b ∷ []) a s = refl
last_bytes-append (b ∷ c ∷ p) a s = last_bytes-append (c ∷ p) a s

weight_moved_after : (p k : Path) (es : List (Path × Content)) → T (below_all path_cmp k es) → sum_by weight_of (entries_under p es) ≡ sum_by weight_of es
unfolding entries_under
weight_moved_after p k [] h = refl
weight_moved_after p k (e ∷ es) h =
    let parts = parts_of (is_lt (path_cmp k e.0)) (below_all path_cmp k es) h in
    sum_by-cons weight_of (p ++ e.0, e.1) (entries_under p es)
    ∙ ap (λ n. n + sum_by weight_of (entries_under p es)) (passed k e.0 e.1 parts.0)
    ∙ ap (λ n. weight_of e + n) (weight_moved_after p k es parts.1)
    ∙ sym (sum_by-cons weight_of e es)
  where
    passed : (k r : Path) (c : Content) → T (is_lt (path_cmp k r)) → weight_of (p ++ r, c) ≡ weight_of (r, c)
    passed [] [] c l = absurd l
    passed (a ∷ k) [] c l = absurd l
    passed k (b ∷ r) c l = ap (λ n. 16 + n + text_bytes c) (last_bytes-append p b r)

weight_moved_first : (p k : Path) (c : Content) (es : List (Path × Content)) → T (below_all path_cmp k es) → is_some (look [] ((k, c) ∷ es)) ≡ true → sum_by weight_of (entries_under p ((k, c) ∷ es)) ≡ last_bytes p + sum_by weight_of ((k, c) ∷ es)
unfolding entries_under
weight_moved_first p [] c es h i =
    let root : last_bytes (p ++ []) ≡ last_bytes p = ap last_bytes (append-nil p) in
    omega (arith, root, sum_by-cons weight_of (p ++ [], c) (entries_under p es), sum_by-cons weight_of ([], c) es, weight_moved_after p [] es h)
weight_moved_first p (a ∷ k) c es h i = let n = root-first (a ∷ k) es h in absurd (cc)

-- behind p the rows of a tree weigh more by the last label of p
pub weight-moved : (p : Path) (es : List (Path × Content)) → T (is_sorted path_cmp es) → is_some (look [] es) ≡ true → sum_by weight_of (entries_under p es) ≡ last_bytes p + sum_by weight_of es
weight-moved p [] h i = absurd (cc)
weight-moved p (e ∷ es) h i = weight_moved_first p e.0 e.1 es (parts_of (below_all path_cmp e.0 es) (is_sorted path_cmp es) h).0 i

-- at a place that wasn't there the rows' weight is added, and the last label of the place
pub weight-put : (p : Path) (es : List (Path × Content)) (t : Tree) → T (is_sorted path_cmp es) → is_some (look [] es) ≡ true → Closed (keyed.get t) → keyed.get t p ≡ None →
    weight (with_subtree p es t) ≡ weight t + last_bytes p + sum_by weight_of es
weight-put p es t h i c n = omega (arith, weight-replaced_new p es t h c n, weight-moved p es h i)

-- at a place that was there the rows' weight counts in place of that of what was there
pub weight-swapped : (p : Path) (es : List (Path × Content)) (t : Tree) → T (is_sorted path_cmp es) → is_some (look [] es) ≡ true → is_there t p ≡ true →
    weight (with_subtree p es t) + sum_by weight_of (below p t) ≡ weight t + sum_by weight_of es
weight-swapped p es t h i j =
    let root : is_some (look [] (below p t)) ≡ true = ap is_some (find-below p [] t) ∙ ap (is_there t) (append-nil p) ∙ j in
    omega (arith, weight-replaced p es t h, weight-moved p es h i, weight-moved p (below p t) (sorted-below p t) root, sum_by-moved weight_of p (below p t))
