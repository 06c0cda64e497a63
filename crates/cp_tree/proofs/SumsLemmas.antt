-- What the edges below a root add up to: laws of the sums, and the reach of the tree from them.
use Rattle.std.specs.Prelude.{◌≡◌, ℕ, ◌+◌, true, List, [], ◌∷◌, ◌++◌, length, max, sum_by, is_some, refl}
use Rattle.std.proofs.Common.{sym, ap, subst, ◌∙◌, arith}
use Rattle.std.proofs.lemmas.List.Sums.{sum_by-cons}
use Rattle.cp_model.specs.declared.row.Content.{Content}
use Rattle.cp_model.specs.Place.{Label, Path}
use Rattle.cp_model.specs.Keyed as keyed
use Rattle.cp_model.specs.Keyed.{look}
use Rattle.cp_model.proofs.KeyedLemmas.{get-entries}
use Rattle.cp_model.specs.Tree.{Tree, IsRooted, weight, weight_of, text_bytes}
use Rattle.cp_tree.specs.Branch.{below_label, child_rows, branch, sub, children_len}
use Rattle.cp_tree.proofs.BranchLemmas.{entries-branch, entries-sub}
use Rattle.cp_tree.proofs.Counted.{greatest-append}
use Rattle.cp_tree.specs.Good.{AllRooted, IsGood}
use Rattle.cp_tree.specs.Rows.{greatest, path_size, deepest, reach_of, reach_at}
use Rattle.cp_tree.proofs.Split.{sorted_front, sorted_back}
use Rattle.cp_tree.proofs.Totals.{len-branch, weight-branch}
use Rattle.cp_tree.specs.declared.sums.Sums.{Sums}
use Rattle.cp_tree.specs.Sums.{children_weight, largest, children_depth, children_size, sums_of, beside, seen_above, reach_of_sums, AreSmall, AreChildren}

-- ---- sums of edges and others

pub children_len-append : (es fs : List (Label × Tree)) → children_len (es ++ fs) ≡ children_len es + children_len fs
children_len-append [] fs = omega arith
children_len-append (e ∷ es) fs = omega (arith, children_len-append es fs)

pub children_weight-append : (es fs : List (Label × Tree)) → children_weight (es ++ fs) ≡ children_weight es + children_weight fs
children_weight-append [] fs = omega arith
children_weight-append (e ∷ es) fs = omega (arith, children_weight-append es fs)

pub children_depth-append : (es fs : List (Label × Tree)) → children_depth (es ++ fs) ≡ max (children_depth es) (children_depth fs)
children_depth-append [] fs = omega arith
children_depth-append (e ∷ es) fs = ap (max (1 + deepest (keyed.entries e.1))) (children_depth-append es fs) ∙ omega arith

pub children_size-append : (es fs : List (Label × Tree)) → children_size (es ++ fs) ≡ max (children_size es) (children_size fs)
children_size-append [] fs = omega arith
children_size-append (e ∷ es) fs = ap (max (length e.0 + 1 + largest (keyed.entries e.1))) (children_size-append es fs) ∙ omega arith

pub same_sums : (s t : Sums) → s.nodes ≡ t.nodes → s.inner ≡ t.inner → s.size ≡ t.size → s.depth ≡ t.depth → s ≡ t
same_sums s t n w z d = λ i. record { nodes = n i; inner = w i; size = z i; depth = d i }

pub sums-append : (es fs : List (Label × Tree)) → sums_of (es ++ fs) ≡ beside (sums_of es) (sums_of fs)
sums-append es fs = same_sums _ _ (children_len-append es fs) (children_weight-append es fs) (children_size-append es fs) (children_depth-append es fs)

-- ---- parts of edges

rooted_front : (l m : List (Label × Tree)) → AllRooted (l ++ m) → AllRooted l
rooted_front [] m r = tt
rooted_front (y ∷ l) m r = (r.0, rooted_front l m r.1)

rooted_back : (l m : List (Label × Tree)) → AllRooted (l ++ m) → AllRooted m
rooted_back [] m r = r
rooted_back (y ∷ l) m r = rooted_back l m r.1

-- the first of some edges
pub children_front : (l m : List (Label × Tree)) → AreChildren (l ++ m) → AreChildren l
children_front l m k = record {
  sorted = sorted_front l m k.sorted;
  rooted = rooted_front l m k.rooted;
  small = record {
    nodes = omega (arith, k.small.nodes, children_len-append l m);
    inner = omega (arith, k.small.inner, children_weight-append l m);
    size = omega (arith, k.small.size, children_size-append l m);
    depth = omega (arith, k.small.depth, children_depth-append l m);
  };
}

-- the last of some edges
pub children_back : (l m : List (Label × Tree)) → AreChildren (l ++ m) → AreChildren m
children_back l m k = record {
  sorted = sorted_back l m k.sorted;
  rooted = rooted_back l m k.rooted;
  small = record {
    nodes = omega (arith, k.small.nodes, children_len-append l m);
    inner = omega (arith, k.small.inner, children_weight-append l m);
    size = omega (arith, k.small.size, children_size-append l m);
    depth = omega (arith, k.small.depth, children_depth-append l m);
  };
}

-- ---- the sums give the reach of a tree

some_rows : (n : Tree) → IsRooted n → (r : Path × Content) × ((rs : List (Path × Content)) × (keyed.entries n ≡ r ∷ rs))
some_rows n h = by (keyed.entries n) refl (ap is_some (sym (get-entries n [])) ∙ h.root)
  where
    by : (es : List (Path × Content)) → keyed.entries n ≡ es → is_some (look [] (keyed.entries n)) ≡ true → (r : Path × Content) × ((rs : List (Path × Content)) × (keyed.entries n ≡ r ∷ rs))
    by [] e i = absurd (let no : is_some (look [] (keyed.entries n)) ≡ is_some (look {X = Content} [] []) = ap (λ z. is_some (look [] z)) e in cc)
    by (r ∷ rs) e i = (r, (rs, e))

module _ (f : Path → ℕ) (w : Label → ℕ) (step : (a : Label) (p : Path) → f (a ∷ p) ≡ w a + f p) where
  greatest-under : (a : Label) (r : Path × Content) (rs : List (Path × Content)) → greatest (λ e. f e.0) (below_label a (r ∷ rs)) ≡ w a + greatest (λ e. f e.0) (r ∷ rs)
  greatest-under a r [] = omega (arith, step a r.0)
  greatest-under a r (s ∷ rs) = ap (max (f (a ∷ r.0))) (greatest-under a s rs) ∙ omega (arith, step a r.0)

  greatest-child : (a : Label) (n : Tree) → IsRooted n → greatest (λ e. f e.0) (below_label a (keyed.entries n)) ≡ w a + greatest (λ e. f e.0) (keyed.entries n)
  greatest-child a n h = let s = some_rows n h in subst (λ z. greatest (λ e. f e.0) (below_label a z) ≡ w a + greatest (λ e. f e.0) z) (sym s.1.1) (greatest-under a s.0 s.1.0)

depth_rows : (es : List (Label × Tree)) → AllRooted es → greatest (λ e. length e.0) (child_rows es) ≡ children_depth es
depth_rows [] r = refl
depth_rows (e ∷ es) r =
    greatest-append (λ e. length e.0) (below_label e.0 (keyed.entries e.1)) (child_rows es)
    ∙ omega (arith, greatest-child (λ p. length p) (λ _. 1) (λ a p. omega arith) e.0 e.1 r.0, depth_rows es r.1)

size_rows : (es : List (Label × Tree)) → AllRooted es → greatest (λ e. path_size e.0) (child_rows es) ≡ children_size es
size_rows [] r = refl
size_rows (e ∷ es) r =
    greatest-append (λ e. path_size e.0) (below_label e.0 (keyed.entries e.1)) (child_rows es)
    ∙ omega (arith, greatest-child path_size (λ a. length a + 1) (λ a p. sum_by-cons (λ (b : Label). length b + 1) a p) e.0 e.1 r.0, size_rows es r.1)

max_zero : (n : ℕ) → max 0 n ≡ n
max_zero n = omega arith

-- the most labels below the root of a tree
pub depth-branch : (x : Content) (es : List (Label × Tree)) → IsGood x es → deepest (keyed.entries (branch x es)) ≡ children_depth es
depth-branch x es g = ap (greatest (λ e. length e.0)) (entries-branch x es g.sorted) ∙ max_zero (greatest (λ e. length e.0) (child_rows es)) ∙ depth_rows es g.trees

-- the largest size below the root of a tree
pub size-branch : (x : Content) (es : List (Label × Tree)) → IsGood x es → largest (keyed.entries (branch x es)) ≡ children_size es
size-branch x es g = ap (greatest (λ e. path_size e.0)) (entries-branch x es g.sorted) ∙ max_zero (greatest (λ e. path_size e.0) (child_rows es)) ∙ size_rows es g.trees

-- the number and the weight of the entries
pub len_entries : (m : Tree) → length (keyed.entries m) ≡ keyed.len m
unfolding keyed.entries keyed.len
len_entries m = refl

pub weight_entries : (m : Tree) → sum_by weight_of (keyed.entries m) ≡ weight m
unfolding weight
weight_entries m = refl

-- the reach of a tree, from the sums of its edges
pub reach-branch : (x : Content) (es : List (Label × Tree)) → IsGood x es → reach_of (keyed.entries (branch x es)) ≡ reach_of_sums (text_bytes x) (sums_of es)
unfolding reach_of
reach-branch x es g =
    let n = len_entries (branch x es) ∙ len-branch x es g.sorted in
    let w = weight_entries (branch x es) ∙ weight-branch x es g in
    let d = depth-branch x es g in
    let z = size-branch x es g in
    λ i. record { nodes = n i; inner = w i; depth = d i; size = z i }

-- and that of the subtree at a place
pub reach-at : (t : Tree) (p : Path) (x : Content) (es : List (Label × Tree)) → IsGood x es → branch x es ≡ sub t p → reach_at t p ≡ reach_of_sums (text_bytes x) (sums_of es)
reach-at t p x es g e = ap reach_of (sym (entries-sub t p) ∙ ap keyed.entries (sym e)) ∙ reach-branch x es g

-- the sums of one edge, from those below it
pub sums-edge : (a : Label) (x : Content) (es : List (Label × Tree)) → IsGood x es → sums_of ((a, branch x es) ∷ []) ≡ seen_above (length a) (text_bytes x) (sums_of es)
sums-edge a x es g = same_sums _ _
    (omega (arith, len-branch x es g.sorted))
    (omega (arith, weight-branch x es g))
    (omega (arith, size-branch x es g))
    (omega (arith, depth-branch x es g))

-- ---- sums that are kept

module _ (x y : Sums) (es fs : List (Label × Tree)) (e : x ≡ sums_of es) (f : y ≡ sums_of fs) where
  -- the sums of some edges and others
  pub sums_beside : beside x y ≡ sums_of (es ++ fs)
  sums_beside = ap (beside x) f ∙ ap (λ z. beside z (sums_of fs)) e ∙ sym (sums-append es fs)

  pub small_beside : AreChildren (es ++ fs) → AreSmall (beside x y)
  small_beside k = subst AreSmall (sym sums_beside) k.small

module _ (s : Sums) (v : Label × Tree) (a : Label) (x : Content) (es : List (Label × Tree)) (e : s ≡ sums_of es) (view : (a, branch x es) ≡ v) (g : IsGood x es) where
  -- what an edge adds
  pub sums_above : seen_above (length a) (text_bytes x) s ≡ sums_of (v ∷ [])
  sums_above = ap (seen_above (length a) (text_bytes x)) e ∙ sym (sums-edge a x es g) ∙ ap (λ z. sums_of (z ∷ [])) view

  pub small_above : AreChildren (v ∷ []) → AreSmall (seen_above (length a) (text_bytes x) s)
  small_above k = subst AreSmall (sym sums_above) k.small
