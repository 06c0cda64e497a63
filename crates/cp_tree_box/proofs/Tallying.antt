-- What is counted of a root and of the trees at its edges.
use Rattle.std.specs.Prelude.{◌≡◌, ℕ, ◌+◌, ◌<◌, true, false, cond, ◌==◌, List, [], ◌∷◌, length, max, slice_index, is_some}
use Rattle.std.proofs.Common.{sym, ap, subst, ◌∙◌, arith, set, refl}
use Rattle.std.proofs.lemmas.List.{get_or-set_same, get_or-set_other}
use Rattle.std.proofs.lemmas.Bool.Decides.{nat_tests}
use Rattle.std.specs.declared.option.Option.TheVariants.{Some}
use Rattle.std.specs.FinMap.Entries.{find}
use Rattle.std.specs.Map.{lookup}
use Rattle.std.specs.BTreeMap.{is_at}
use Rattle.cp_path.specs.Text.{text_cmp}
use Rattle.cp_model.specs.declared.row.Content.{Content}
use Rattle.cp_model.specs.Place.{Label, Path}
use Rattle.cp_model.specs.Keyed as keyed
use Rattle.cp_model.specs.Subtrees.{is_there}
use Rattle.cp_model.specs.Tree.{Tree}
use Rattle.cp_tree.specs.Branch.{branch, below_label, child_rows}
use Rattle.cp_tree.proofs.BranchLemmas.{get-branch_root, entries-branch}
use Rattle.cp_tree.specs.Good.{IsGood}
use Rattle.cp_tree.proofs.GoodLemmas.{rooted_found, get_below}
use Rattle.cp_tree.specs.Rows.{greatest}
use Rattle.cp_tree.proofs.Counted.{greatest-append}
use Rattle.cp_tree.proofs.Totals.{children_total, total-branch, len-branch, len-find}
use Rattle.cp_tree_box.specs.declared.spot.Spot.{Spot}
use Rattle.cp_tree_box.specs.Tallies.{child_spot, IsNear, AreNear, Gauge, place_counts, row_counts, tree_counts}
use Rattle.cp_tree_box.proofs.Maps.{looked}

-- a number is itself
pub hit : (n : ℕ) → ◌≡◌ {A = ℕ} (cond (n == n) 1 0) 1
hit n = (let is : (n == n) ≡ true = grind (arith, nat_tests) in ap (λ b. cond b 1 0) is)

-- one more at i
pub more_at : (xs ys : List ℕ) (i k n : ℕ) → i < length xs → ys ≡ set xs i n → n ≡ slice_index xs i + 1 → slice_index ys k ≡ slice_index xs k + cond (i == k) 1 0
more_at xs ys i k n lt e m =
    ap (λ zs. slice_index zs k) e ∙ elim (i == k) as (λ b. (i == k) ≡ b → slice_index (set xs i n) k ≡ slice_index xs k + cond b 1 0) [
      | true ↦ λ t. (let is : i ≡ k = grind (arith, nat_tests) in subst (λ z. slice_index (set xs i n) z ≡ slice_index xs z + 1) is (get_or-set_same xs i n 0 lt ∙ m))
      | false ↦ λ t. get_or-set_other xs i k n 0 (λ z. (let is : (i == k) ≡ true = grind (arith, nat_tests) in absurd (cc))) ∙ omega arith
    ] refl

-- one less at i
pub less_at : (xs ys : List ℕ) (i k n : ℕ) → i < length xs → ys ≡ set xs i n → n + 1 ≡ slice_index xs i → slice_index ys k + cond (i == k) 1 0 ≡ slice_index xs k
less_at xs ys i k n lt e m =
    ap (λ zs. slice_index zs k + cond (i == k) 1 0) e ∙ elim (i == k) as (λ b. (i == k) ≡ b → slice_index (set xs i n) k + cond b 1 0 ≡ slice_index xs k) [
      | true ↦ λ t. (let is : i ≡ k = grind (arith, nat_tests) in subst (λ z. slice_index (set xs i n) z + 1 ≡ slice_index xs z) is (ap (λ z. z + 1) (get_or-set_same xs i n 0 lt) ∙ m))
      | false ↦ λ t. ap (λ z. z + 0) (get_or-set_other xs i k n 0 (λ z. (let is : (i == k) ≡ true = grind (arith, nat_tests) in absurd (cc)))) ∙ omega arith
    ] refl

-- the root x with its edges es is the tree m
module _ (m : Tree) (x : Content) (es : List (Label × Tree)) (view : branch x es ≡ m) (g : IsGood x es) (s : Spot) where
  -- the root is within the limits where all places are
  pub near_root : AreNear s m → IsNear s
  near_root near = near [] (ap (λ z. is_there z []) (sym view) ∙ ap is_some (get-branch_root x es))

  -- what the tree counts for is what its root and the trees at its edges do
  pub counts_root : (j : Gauge) → tree_counts j s m ≡ place_counts j s x + children_total (row_counts j s) es
  counts_root j = ap (tree_counts j s) (sym view) ∙ total-branch (row_counts j s) x es g.sorted

  module _ (a : Label) (k : Tree) (f : lookup (is_at (text_cmp a)) es ≡ Some k) where
    found : find text_cmp a es ≡ Some k
    found = looked a es (Some k) (sym f)

    -- the places of an edge's tree are within the limits
    pub near_child_tree : AreNear s m → AreNear (child_spot s a) k
    near_child_tree near q t = near (a ∷ q) (ap is_some (get_below m x es es a view g q k found) ∙ t)

    -- and so is its root
    pub near_edge : AreNear s m → IsNear (child_spot s a)
    near_edge near = near_child_tree near [] (rooted_found a es k g.trees found).root

  -- the greatest of the tree
  pub greatest_root : (f : Path × Content → ℕ) → greatest f (keyed.entries m) ≡ max (f ([], x)) (greatest f (child_rows es))
  greatest_root f = ap (λ z. greatest f (keyed.entries z)) (sym view) ∙ ap (greatest f) (entries-branch x es g.sorted)

greatest_under : (f : Path × Content → ℕ) (a : Label) (rs : List (Path × Content)) → greatest f (below_label a rs) ≡ greatest (λ r. f (a ∷ r.0, r.1)) rs
greatest_under f a [] = refl
greatest_under f a (r ∷ rs) = ap (max (f (a ∷ r.0, r.1))) (greatest_under f a rs)

-- the greatest below an edge and the others
pub greatest_child : (f : Path × Content → ℕ) (it rest : List (Label × Tree)) (a : Label) (k : Tree) → it ≡ (a, k) ∷ rest → greatest f (child_rows it) ≡ max (greatest (λ r. f (a ∷ r.0, r.1)) (keyed.entries k)) (greatest f (child_rows rest))
greatest_child f it rest a k i = ap (λ z. greatest f (child_rows z)) i ∙ greatest-append f (below_label a (keyed.entries k)) (child_rows rest) ∙ ap (λ n. max n (greatest f (child_rows rest))) (greatest_under f a (keyed.entries k))

-- what an edge and the others count for
pub counts_child : (j : Gauge) (s : Spot) (it rest : List (Label × Tree)) (a : Label) (k : Tree) → it ≡ (a, k) ∷ rest → children_total (row_counts j s) it ≡ tree_counts j (child_spot s a) k + children_total (row_counts j s) rest
counts_child j s it rest a k i = ap (children_total (row_counts j s)) i

-- a tree of an edge has fewer places
pub fewer_child : (m : Tree) (x : Content) (es : List (Label × Tree)) (view : branch x es ≡ m) (g : IsGood x es) (a : Label) (k : Tree) → lookup (is_at (text_cmp a)) es ≡ Some k → keyed.len k < keyed.len m
fewer_child m x es view g a k f = omega (arith, ap keyed.len view, len-branch x es g.sorted, len-find a k es (looked a es (Some k) (sym f)))
