-- The tree of rows that fit into another is within the limits, and so is that of the first of them.
use Rattle.cp_model.specs.declared.limits.TheConstants.{NODES_MAX, WEIGHT_MAX}
use Rattle.cp_path.specs.declared.limits.TheConstants.{LABELS_MAX, LOC_MAX, TEXT_MAX}
use Rattle.std.specs.Prelude.{◌≡◌, ℕ, ◌+◌, ◌-◌, ◌≤◌, ◌<◌, true, false, cond, List, [], ◌∷◌, ◌++◌, take, length, max, sum_by, is_some, zero, suc, refl}
use Rattle.std.proofs.Common.{sym, ap, subst, ◌∙◌, T, arith, get_or, length-append}
use Rattle.std.proofs.lemmas.List.{take-map}
use Rattle.std.proofs.lemmas.List.Sums.{sum_by-cons, sum_by-append}
use Rattle.std.specs.declared.option.Option.TheVariants.{Some}
use Rattle.std.specs.FinMap.Entries.{is_sorted, below_all}
use Rattle.std.specs.Ordering.{is_lt}
use Rattle.cp_model.specs.declared.row.Content.{Content}
use Rattle.cp_model.specs.declared.row.Row.{Row}
use Rattle.cp_model.specs.Place.{Label, Path, path_cmp, path_eq, child}
use Rattle.cp_path.proofs.Same.{path_eq-same}
use Rattle.cp_path.specs.PathOrder.{path_eq_equiv}
use Rattle.cp_model.proofs.KeyedLemmas.{get-entries}
use Rattle.cp_model.specs.Keyed as keyed
use Rattle.cp_model.specs.Keyed.{look}
use Rattle.cp_model.specs.Subtrees.{with_subtree}
use Rattle.cp_model.specs.Tree.{Tree, IsRooted, IsTree, weight, weight_of, text_bytes}
use Rattle.cp_model.specs.History.{IsLiteral}
use Rattle.cp_model.specs.Laws.{at_rest_or}
use Rattle.cp_model.proofs.Lookups.{get-replaced}
use Rattle.cp_model.proofs.Rooted.{rows-literal}
use Rattle.cp_model.proofs.Sorted.{parts_of, all_of, sorted-entries}
use Rattle.cp_model.proofs.Strips.{strip-itself}
use Rattle.cp_model.proofs.SumsLemmas.{last_bytes_child, len-replaced, len-without, weight-replaced, weight-without}
use Rattle.cp_model.proofs.Weights.{weight-moved}
use Rattle.cp_tree.specs.Rows.{greatest, path_size, deepest, entries_in, root_entries, tree_of_rows}
use Rattle.cp_tree.specs.Sums.{largest, AreChildren, IsSmall}
use Rattle.cp_tree.proofs.BranchLemmas.{entries-from_entries}
use Rattle.cp_tree.proofs.Built.{entries-tree_of_rows}
use Rattle.cp_tree.proofs.Building.{row_built}
use Rattle.cp_tree.proofs.Small.{short_labels}
use Rattle.cp_tree.proofs.SumsLemmas.{len_entries, weight_entries}
use Rattle.cp_tree.proofs.Tallies.{deepest-fits, greatest_within, there_replaced}

-- the numbers of these entries are within the limits of a tree
record AreFew (es : List (Path × Content)) : Type 0 where
  nodes : length es ≤ NODES_MAX
  inner : sum_by weight_of es ≤ WEIGHT_MAX
  size : largest es ≤ LOC_MAX - 1
  depth : deepest es ≤ LABELS_MAX

few_tree : (m : Tree) → AreFew (keyed.entries m) → IsSmall m
unfolding keyed.len keyed.entries weight
few_tree m h = record { nodes = h.nodes; inner = h.inner; size = h.size; depth = h.depth }

tree_few : (m : Tree) → IsSmall m → AreFew (keyed.entries m)
unfolding keyed.len keyed.entries weight
tree_few m h = record { nodes = h.nodes; inner = h.inner; size = h.size; depth = h.depth }

-- ---- the first of some entries

length_take : {X : Type 0} (n : ℕ) (xs : List X) → length (take n xs) ≤ length xs
length_take zero xs = omega arith
length_take (suc n) [] = omega arith
length_take (suc n) (x ∷ xs) = omega (arith, length_take n xs)

sum_take : {X : Type 0} (f : X → ℕ) (n : ℕ) (xs : List X) → sum_by f (take n xs) ≤ sum_by f xs
sum_take f zero xs = omega arith
sum_take f (suc n) [] = omega arith
sum_take f (suc n) (x ∷ xs) = omega (arith, sum_by-cons f x (take n xs), sum_by-cons f x xs, sum_take f n xs)

greatest_take : {X : Type 0} (f : X → ℕ) (n : ℕ) (xs : List X) → greatest f (take n xs) ≤ greatest f xs
greatest_take f zero xs = omega arith
greatest_take f (suc n) [] = omega arith
greatest_take f (suc n) (x ∷ xs) = omega (arith, greatest_take f n xs)

few_take : (n : ℕ) (es : List (Path × Content)) → AreFew es → AreFew (take n es)
few_take n es h = record {
  nodes = omega (arith, h.nodes, length_take n es);
  inner = omega (arith, h.inner, sum_take weight_of n es);
  size = omega (arith, h.size, greatest_take (λ (e : Path × Content). path_size e.0) n es);
  depth = omega (arith, h.depth, greatest_take (λ (e : Path × Content). length e.0) n es);
}

below_take : (k : Path) (n : ℕ) (es : List (Path × Content)) → T (below_all path_cmp k es) → T (below_all path_cmp k (take n es))
below_take k zero es h = tt
below_take k (suc n) [] h = tt
below_take k (suc n) (e ∷ es) h = let p = parts_of (is_lt (path_cmp k e.0)) (below_all path_cmp k es) h in all_of _ _ p.0 (below_take k n es p.1)

sorted_take : (n : ℕ) (es : List (Path × Content)) → T (is_sorted path_cmp es) → T (is_sorted path_cmp (take n es))
sorted_take zero es s = tt
sorted_take (suc n) [] s = tt
sorted_take (suc n) (e ∷ es) s = let p = parts_of (below_all path_cmp e.0 es) (is_sorted path_cmp es) s in all_of _ _ (below_take e.0 n es p.0) (sorted_take n es p.1)

-- the entries of the tree of the first rows
entries_first : (n : ℕ) (rows : List Row) → IsLiteral (entries_in rows) → keyed.entries (tree_of_rows (take n rows)) ≡ take n (entries_in rows)
entries_first n rows l =
    let first : take n (entries_in rows) ≡ entries_in (take n rows) = take-map (λ (r : Row). (r.path, r.content)) n rows in
    entries-from_entries (entries_in (take n rows)) (subst (λ z. T (is_sorted path_cmp z)) first (sorted_take n (entries_in rows) l.sorted)) ∙ sym first

-- that tree is within the limits where that of all is
small_take : (n : ℕ) (rows : List Row) → IsLiteral (entries_in rows) → IsSmall (tree_of_rows rows) → IsSmall (tree_of_rows (take n rows))
small_take n rows l s =
    let few = subst AreFew (entries-tree_of_rows rows l) (tree_few (tree_of_rows rows) s) in
    few_tree (tree_of_rows (take n rows)) (subst AreFew (sym (entries_first n rows l)) (few_take n (entries_in rows) few))

-- so is the tree with one row more
pub small_row : (rows rest : List Row) (first : Row) (e : rows ≡ first ∷ rest) (l : IsLiteral (entries_in rows)) (i : ℕ) (row : Row) (lt : i < length rest) (at : row ≡ get_or rest i row) (root : Tree) →
    root ≡ tree_of_rows (take (i + 1) rows) → IsSmall (tree_of_rows rows) → IsSmall (with_subtree row.path (root_entries row.content) root)
small_row rows rest first e l i row lt at root so_far s =
    let new = with_subtree row.path (root_entries row.content) root in
    subst IsSmall (sym (row_built rows rest first e l i row lt at root so_far new refl)) (small_take ((i + 1) + 1) rows l s)

-- ---- rows that fit

few_rows : (t : Tree) (p : Path) (es : List (Path × Content)) → IsLiteral es → IsTree (with_subtree p es t) → AreFew es
few_rows t p es l h = record {
  nodes = omega (arith, h.within.nodes, len-replaced p es t l.sorted, len-without p t);
  inner = omega (arith, h.within.weighs, weight-replaced p es t l.sorted, weight-without p t, weight-moved p es l.sorted (rows-literal es l).root);
  size = greatest_within (LOC_MAX - 1) path_size es (λ r i. omega (arith, short_labels (p ++ r) (h.places (p ++ r) (there_replaced t p r es i)), sum_by-append (λ (a : Label). length a + 1) p r));
  depth = omega (arith, deepest-fits t p es l h);
}

-- the tree of rows that fit into another is within the limits
pub small_rows : (t : Tree) (p : Path) (rows : List Row) → IsLiteral (entries_in rows) → IsTree (with_subtree p (entries_in rows) t) → IsSmall (tree_of_rows rows)
small_rows t p rows l h = few_tree (tree_of_rows rows) (subst AreFew (sym (entries-tree_of_rows rows l)) (few_rows t p (entries_in rows) l h))

-- the text of a leaf that fits is within its limit
pub text_fits : (t : Tree) (p : Path) (c : Content) → IsTree (with_subtree p (root_entries c) t) → text_bytes c ≤ TEXT_MAX
text_fits t p c h = h.texts p c (get-replaced p (root_entries c) t p ∙ ap (λ o. at_rest_or o (λ s. look s (root_entries c)) (keyed.get t p)) (strip-itself p))

look_take : (q : Path) (n : ℕ) (es : List (Path × Content)) (x : Content) → look q (take n es) ≡ Some x → look q es ≡ Some x
look_take q zero es x h = absurd (cc)
look_take q (suc n) [] x h = absurd (cc)
look_take q (suc n) (e ∷ es) x h = elim (path_eq q e.0) as (λ b. cond b (Some e.1) (look q (take n es)) ≡ Some x → cond b (Some e.1) (look q es) ≡ Some x) [
  | true ↦ λ k. k
  | false ↦ look_take q n es x
] h

-- the text of the first row of a literal is within its limit
pub first_text : (rows rest : List Row) (first : Row) → rows ≡ first ∷ rest → IsLiteral (entries_in rows) → text_bytes first.content ≤ TEXT_MAX
first_text rows rest first e l = l.texts first.path first.content (ap (λ z. look first.path (entries_in z)) e ∙ ap (λ b. cond b (Some first.content) (look first.path (entries_in rest))) (path_eq_equiv.refl first.path))

-- and so is that of each further row
pub row_text : (rows rest : List Row) (first : Row) (e : rows ≡ first ∷ rest) (l : IsLiteral (entries_in rows)) (i : ℕ) (row : Row) (lt : i < length rest) (at : row ≡ get_or rest i row) → text_bytes row.content ≤ TEXT_MAX
row_text rows rest first e l i row lt at =
    let n = (i + 1) + 1 in
    let root = tree_of_rows (take (i + 1) rows) in
    let new = with_subtree row.path (root_entries row.content) root in
    let got : keyed.get new row.path ≡ Some row.content = get-replaced row.path (root_entries row.content) root row.path ∙ ap (λ o. at_rest_or o (λ s. look s (root_entries row.content)) (keyed.get root row.path)) (strip-itself row.path) in
    let is : new ≡ tree_of_rows (take n rows) = row_built rows rest first e l i row lt at root refl new refl in
    let among : look row.path (take n (entries_in rows)) ≡ Some row.content =
    ap (look row.path) (sym (entries_first n rows l)) ∙ sym (get-entries (tree_of_rows (take n rows)) row.path) ∙ ap (λ z. keyed.get z row.path) (sym is) ∙ got in
    l.texts row.path row.content (look_take row.path n (entries_in rows) row.content among)

-- ---- a tree that is put

-- the number of a path that is there is at most the greatest
greatest_there : (f : Path → ℕ) (q : Path) (es : List (Path × Content)) → is_some (look q es) ≡ true → f q ≤ greatest (λ e. f e.0) es
greatest_there f q [] i = absurd (cc)
greatest_there f q (e ∷ es) i = elim (path_eq q e.0) as (λ b. path_eq q e.0 ≡ b → is_some (cond b (Some e.1) (look q es)) ≡ true → f q ≤ max (f e.0) (greatest (λ e. f e.0) es)) [
  | true ↦ λ t _. omega (arith, ap f (path_eq-same q e.0 t))
  | false ↦ λ _ k. omega (arith, greatest_there f q es k)
] refl i

-- an edge that leads to a tree which is put below a node is within the limits where the whole is
pub small_edge : (m : Tree) (p : Path) (a : Label) (n : Tree) → IsRooted n → IsSmall (with_subtree (child p a) (keyed.entries n) m) → AreChildren ((a, n) ∷ [])
small_edge m p a n r s =
    let q = child p a in
    let es = keyed.entries n in
    let all = with_subtree q es m in
    let sorted = sorted-entries n in
    let root : is_some (look [] es) ≡ true = ap is_some (sym (get-entries n [])) ∙ r.root in
    let below : (f : Path → ℕ) (z : Path) → is_some (look z es) ≡ true → f (q ++ z) ≤ greatest (λ e. f e.0) (keyed.entries all) = λ f z i. greatest_there f (q ++ z) (keyed.entries all) (ap is_some (sym (get-entries all (q ++ z))) ∙ there_replaced m q z es i) in
    let sizes = λ (b : Label). length b + 1 in
    let size_at : (z : Path) → is_some (look z es) ≡ true → length a + 1 + path_size z ≤ LOC_MAX - 1 =
    λ z i. omega (arith, s.size, below path_size z i, sum_by-append sizes q z, sum_by-append sizes p (a ∷ []), sum_by-cons sizes a []) in
    let depth_at : (z : Path) → is_some (look z es) ≡ true → 1 + length z ≤ LABELS_MAX = λ z i. omega (arith, s.depth, below (λ y. length y) z i, length-append q z, length-append p (a ∷ [])) in
    record {
      sorted = tt;
      rooted = (r, tt);
      small = record {
        nodes = omega (arith, s.nodes, len-replaced q es m sorted, len-without q m, len_entries n);
        inner = omega (arith, s.inner, weight-replaced q es m sorted, weight-without q m, weight-moved q es sorted root, last_bytes_child p a, weight_entries n);
        size = omega (arith, size_at [] root, greatest_within (LOC_MAX - 1 - (length a + 1)) path_size es (λ z i. omega (arith, size_at z i)));
        depth = omega (arith, depth_at [] root, greatest_within (LABELS_MAX - 1) (λ z. length z) es (λ z i. omega (arith, depth_at z i)));
      };
    }
