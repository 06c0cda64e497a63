-- What a tree kept as rows, with the weight kept of it, answers and becomes.
use Rattle.cp_model.specs.declared.limits.TheConstants.{NODES_MAX, WEIGHT_MAX, PLACE_WEIGHT}
use Rattle.cp_path.specs.declared.limits.TheConstants.{LABELS_MAX, LOC_MAX, TEXT_MAX}
use Rattle.std.specs.Prelude.{◌≡◌, ℕ, ◌+◌, ◌≤◌, Bool, true, false, ◌||◌, nat_lt, List, [], ◌∷◌, ◌++◌, map, length, sum_by, is_some, IfSome, IfNone}
use Rattle.std.proofs.Common.{sym, ap, subst, ◌∙◌, T, arith, length-append, refl}
use Rattle.std.proofs.lemmas.List.{length-map}
use Rattle.std.proofs.lemmas.List.Sums.{sum_by-append}
use Rattle.std.proofs.lemmas.Bool.Decides.{nat_tests}
use Rattle.std.specs.declared.option.Option.{Option}
use Rattle.std.specs.declared.option.Option.TheVariants.{None, Some}
use Rattle.std.specs.FinMap.Entries.{find}
use Rattle.cp_path.specs.Text.{text_cmp}
use Rattle.cp_model.specs.declared.row.Content.{Content}
use Rattle.cp_model.specs.declared.row.Row.{Row}
use Rattle.cp_model.specs.Place.{Label, Path, child, at_target, over_limit, size}
use Rattle.cp_model.proofs.KeyedLemmas.{get-entries}
use Rattle.cp_model.specs.Keyed as keyed
use Rattle.cp_model.specs.Keyed.{look}
use Rattle.cp_model.specs.Subtrees.{is_there, below, entries_under, without, with_subtree}
use Rattle.cp_model.specs.Tree.{Tree, IsTree, weight, weight_of, text_bytes, last_bytes, IsNumber}
use Rattle.cp_model.specs.History.{IsLiteral}
use Rattle.cp_model.proofs.Strips.{append-nil}
use Rattle.cp_model.proofs.Sorted.{sorted-entries, sorted-below}
use Rattle.cp_model.proofs.SumsLemmas.{last_bytes_child, sum_by-moved, len-replaced, len-without, weight-replaced, weight-without}
use Rattle.cp_model.proofs.Weights.{weight-moved, weight-put, weight-swapped}
use Rattle.cp_model.proofs.Kept.{closed-tree}
use Rattle.cp_tree.specs.Branch.{sub, child_rows}
use Rattle.cp_tree.specs.Rows.{entry_row, entries_in, root_entries, single, labels_at, path_size, deepest, reach_of}
use Rattle.cp_tree.proofs.Answering.{sub-child}
use Rattle.cp_tree.proofs.BranchLemmas.{get-branch_root, get-sub, sub-root, entries-sub}
use Rattle.cp_tree.proofs.Built.{entries-single}
use Rattle.cp_tree.proofs.GoodLemmas.{sub_below, get_nothing}
use Rattle.cp_tree.proofs.Leaves.{single-tree, single-weight, single-get}
use Rattle.cp_tree.proofs.ListingLemmas.{moved-root, labels-branch}
use Rattle.cp_tree.proofs.Tallies.{few_labels, greatest_within}
use Rattle.cp_tree_rows.specs.declared.row.TreeRow.{TreeRow}
use Rattle.cp_tree_rows.specs.declared.search.Part.{Part}
use Rattle.cp_tree_rows.specs.Forest.{edges, is_part, tree_of}
use Rattle.cp_tree.specs.Sums.{largest}
use Rattle.cp_tree_rows.proofs.Reading.{good_part}
use Rattle.cp_tree_rows.proofs.Walking.{tree_len, entries_part}

-- ---- answers

-- the root of a tree is there
pub root_there : (x : Content) (rs : List TreeRow) → is_there (tree_of x rs) [] ≡ true
root_there x rs = ap is_some (get-branch_root x (edges rs))

-- what stands at a place is what stands at the root of its subtree
pub root_of : (x : Content) (rs : List TreeRow) (m k : Tree) (p q : Path) → tree_of x rs ≡ sub k q → k ≡ m → q ≡ p → Some x ≡ keyed.get m p
root_of x rs m k p q e f g = sym (get-branch_root x (edges rs)) ∙ ap (λ z. keyed.get z []) e ∙ get-sub k q [] ∙ (λ i. keyed.get (f i) ((append-nil q ∙ g) i))

-- whether a subtree was found is whether one is there
pub got : (o : Option Part) (m k : Tree) (p q : Path) → k ≡ m → q ≡ p → IfSome o (λ n. tree_of n.item.now n.rows.now ≡ sub k q) → IfNone o (keyed.get k q ≡ None) → is_some o ≡ is_there m p
got None m k p q e f t g = sym (ap is_some ((λ i. keyed.get (sym e i) (sym f i)) ∙ g))
got (Some n) m k p q e f t g = ap is_some (root_of n.item.now n.rows.now m k p q t e f)

module _ (x : Content) (last : ℕ) (rs : List TreeRow) (part : T (is_part x last rs)) (m k : Tree) (p : Path) (a : Label) (e : tree_of x rs ≡ sub k p) (f : k ≡ m) where
  child_is : (n : Tree) → find text_cmp a (edges rs) ≡ Some n → n ≡ sub m (child p a)
  child_is n h =
      sym (sub-root n) ∙ sym (sub_below (tree_of x rs) x (edges rs) (edges rs) a refl (good_part x last rs part) [] n h)
      ∙ sub-child k (tree_of x rs) p a e ∙ ap (λ z. sub z (child p a)) f

  -- a child that was found
  pub child_at : (o : Option Part) → IfSome o (λ n. find text_cmp a (edges rs) ≡ Some (tree_of n.item.now n.rows.now)) → IfSome o (λ n. tree_of n.item.now n.rows.now ≡ sub m (child p a))
  child_at None h = tt
  child_at (Some n) h = child_is (tree_of n.item.now n.rows.now) h

  -- or not
  pub no_child_at : (o : Option Part) → IfNone o (find text_cmp a (edges rs) ≡ None) → IfNone o (keyed.get m (child p a) ≡ None)
  no_child_at (Some n) h = tt
  no_child_at None h =
      ap (λ z. keyed.get z (child p a)) (sym f) ∙ sym (get-sub k p (a ∷ [])) ∙ ap (λ z. keyed.get z (a ∷ [])) (sym e)
      ∙ get_nothing (tree_of x rs) x (edges rs) (edges rs) a refl (good_part x last rs part) [] h

-- the labels below a place
pub labels_here : (x : Content) (last : ℕ) (rs : List TreeRow) → T (is_part x last rs) → (m : Tree) (p q : Path) → tree_of x rs ≡ sub m q → q ≡ p → map (λ e. e.0) (edges rs) ≡ labels_at m p
labels_here x last rs part m p q e f = sym (labels-branch m q x (edges rs) (good_part x last rs part) e) ∙ ap (labels_at m) f

-- the rows below a place
pub rows_here : (x : Content) (last : ℕ) (rs : List TreeRow) → T (is_part x last rs) → (m : Tree) (p q : Path) → tree_of x rs ≡ sub m q → q ≡ p → (none at : Path) (first mid out : List Row) → first ≡ [] → at ≡ [] → none ≡ at →
    mid ≡ first ++ entry_row (none, x) ∷ [] → out ≡ mid ++ map entry_row (entries_under at (child_rows (edges rs))) → out ≡ map entry_row (below p m)
rows_here x last rs part m p q e f none at first mid out d b g h i =
    let mid_is : mid ≡ entry_row ([], x) ∷ [] = h ∙ (λ j. d j ++ entry_row ((g ∙ b) j, x) ∷ []) in
    i ∙ (λ j. mid_is j ++ map entry_row (entries_under (b j) (child_rows (edges rs)))) ∙ ap (λ z. entry_row ([], x) ∷ map entry_row z) (moved-root (child_rows (edges rs)))
    ∙ ap (map entry_row) (sym (entries_part x last rs part) ∙ ap keyed.entries e ∙ entries-sub m q ∙ ap (λ z. below z m) f)

-- ---- reaches

few_bytes : (q : Path) → over_limit (at_target q) ≡ false → path_size q ≤ LOC_MAX
few_bytes q h = by (nat_lt LABELS_MAX (length q)) (nat_lt LOC_MAX (size (at_target q))) refl h
  where
    by : (b d : Bool) → nat_lt LOC_MAX (size (at_target q)) ≡ d → (b || d) ≡ false → path_size q ≤ LOC_MAX
    by true d e h = absurd (cc)
    by false true e h = absurd (cc)
    by false false e h = (let small : size (at_target q) ≤ LOC_MAX = grind (arith, nat_tests) in omega (arith, small))

module _ (m n : Tree) (p : Path) (t : IsTree m) (e : n ≡ sub m p) where
  entry_there : (r : Path) → is_some (look r (keyed.entries n)) ≡ true → is_there m (p ++ r) ≡ true
  entry_there r i = sym (ap is_some (sym (get-entries n r) ∙ ap (λ z. keyed.get z r) e ∙ get-sub m p r)) ∙ i

  pub deep_enough : deepest (keyed.entries n) ≤ LABELS_MAX
  deep_enough = greatest_within LABELS_MAX (λ r. length r) (keyed.entries n) (λ r i. omega (arith, few_labels (p ++ r) (t.places (p ++ r) (entry_there r i)), length-append p r))

  pub large_enough : largest (keyed.entries n) ≤ LOC_MAX
  large_enough = greatest_within LOC_MAX path_size (keyed.entries n) (λ r i. omega (arith, few_bytes (p ++ r) (t.places (p ++ r) (entry_there r i)), sum_by-append (λ (a : Label). length a + 1) p r))

  pub few_inside : keyed.len n ≤ NODES_MAX
  unfolding keyed.len keyed.entries
  few_inside = omega (arith, t.within.nodes, ap keyed.len e, ap length (entries-sub m p), len-without p m)

  root_inside : is_there n [] ≡ true → is_some (look [] (below p m)) ≡ true
  root_inside i = ap (λ z. is_some (look [] z)) (sym (ap keyed.entries e ∙ entries-sub m p)) ∙ ap is_some (sym (get-entries n [])) ∙ i

  -- what a tree weighs without a subtree
  pub weight_cut : is_there n [] ≡ true → weight (without p m) + (weight n + last_bytes p) ≡ weight m
  unfolding weight
  weight_cut i = omega (
    arith,
    weight-without p m,
    ap (sum_by weight_of) (ap keyed.entries e ∙ entries-sub m p),
    weight-moved p (below p m) (sorted-below p m) (root_inside i),
    sum_by-moved weight_of p (below p m),
  )

  pub light_inside : is_there n [] ≡ true → weight n + last_bytes p ≤ WEIGHT_MAX
  light_inside i = omega (arith, weight_cut i, t.within.weighs)

-- how far a subtree reaches
pub reach_here : (m n : Tree) (p q : Path) → n ≡ sub m q → q ≡ p → reach_of (keyed.entries n) ≡ reach_of (below p m)
reach_here m n p q e f = ap reach_of (ap keyed.entries e ∙ entries-sub m q ∙ ap (λ z. below z m) f)

-- ---- changes

module _ (m n : Tree) (p : Path) (t : IsTree m) (root : is_there n [] ≡ true) (fits : IsTree (with_subtree p (keyed.entries n) m)) where
  look_root : is_some (look [] (keyed.entries n)) ≡ true
  look_root = ap is_some (sym (get-entries n [])) ∙ root

  -- a subtree that fits has few places
  pub new_few : keyed.len n ≤ NODES_MAX
  unfolding keyed.len keyed.entries
  new_few = omega (arith, len-replaced p (keyed.entries n) m (sorted-entries n), len-without p m, fits.within.nodes)

  -- and is light
  pub new_light : weight n + last_bytes p ≤ WEIGHT_MAX
  unfolding weight
  new_light = omega (arith, weight-replaced p (keyed.entries n) m (sorted-entries n), weight-moved p (keyed.entries n) (sorted-entries n) look_root, weight-without p m, fits.within.weighs)

  -- the weight with it, where nothing was
  pub weight_added : is_there m p ≡ false → weight (with_subtree p (keyed.entries n) m) ≡ weight m + (weight n + last_bytes p)
  unfolding weight
  weight_added f = omega (arith, weight-put p (keyed.entries n) m (sorted-entries n) look_root (closed-tree m t.rooted) (none_of (keyed.get m p) f))
    where
      none_of : (o : Option Content) → is_some o ≡ false → o ≡ None
      none_of None e = refl
      none_of (Some c) e = absurd (cc)

  -- the weight with it, in the place of another
  pub weight_swapped : is_there m p ≡ true → (k : Tree) → k ≡ sub m p → weight (with_subtree p (keyed.entries n) m) + weight k ≡ weight m + weight n
  unfolding weight
  weight_swapped i k e = omega (arith, weight-swapped p (keyed.entries n) m (sorted-entries n) look_root i, ap (sum_by weight_of) (ap keyed.entries e ∙ entries-sub m p))

-- rows of few places are few
pub few_rows : (x : Content) (last : ℕ) (rs : List TreeRow) → T (is_part x last rs) → keyed.len (tree_of x rs) ≤ NODES_MAX → length rs + 1 ≤ NODES_MAX
few_rows x last rs part h = omega (arith, h, tree_len x last rs part)

-- rows that fit are few
pub few_given : (m : Tree) (p : Path) (rows : List Row) → IsLiteral (entries_in rows) → IsTree (with_subtree p (entries_in rows) m) → length rows ≤ NODES_MAX
few_given m p rows l fits = omega (arith, len-replaced p (entries_in rows) m l.sorted, len-without p m, fits.within.nodes, length-map {B = Path × Content} rows (λ r. (r.path, r.content)))

-- a root alone
module _ (c d : Content) (h : text_bytes c ≤ TEXT_MAX) (whole : IsNumber c) (same_content : d ≡ c) (m : Tree) (e : m ≡ single d) where
  pub single_is : m ≡ single c
  single_is = e ∙ ap single same_content

  pub alone_tree : IsTree m
  alone_tree = subst IsTree (sym single_is) (single-tree c h whole)

-- the weight with a leaf more
pub leaf_weight : (m : Tree) (p : Path) (a : Label) (c : Content) → IsTree m → IsTree (with_subtree (child p a) (root_entries c) m) → is_there m (child p a) ≡ false → weight (with_subtree (child p a) (root_entries c) m) ≡ weight m + (PLACE_WEIGHT + length a + text_bytes c)
leaf_weight m p a c t fits free =
    let n = single c in
    let e : keyed.entries n ≡ root_entries c = entries-single c in
    let root : is_there n [] ≡ true = ap is_some (single-get c []) in
    let added = weight_added m n (child p a) t root (subst (λ z. IsTree (with_subtree (child p a) z m)) (sym e) fits) free in
    omega (arith, ap (λ z. weight (with_subtree (child p a) z m)) e, added, single-weight c, last_bytes_child p a)
