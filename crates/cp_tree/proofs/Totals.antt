-- Sums over a tree from those over the trees of its edges: its number of places and its weight.
use Rattle.cp_model.specs.declared.limits.TheConstants.{PLACE_WEIGHT}
use Rattle.std.specs.Prelude.{◌≡◌, ℕ, ◌+◌, ◌≤◌, true, false, cond, List, [], ◌∷◌, length, sum_by, is_some, refl}
use Rattle.std.proofs.Common.{sym, ap, ◌∙◌, T, arith}
use Rattle.std.proofs.lemmas.List.Sums.{sum_by-cons, sum_by-append}
use Rattle.std.specs.declared.option.Option.TheVariants.{Some}
use Rattle.std.specs.Ordering.{eq_by_cmp}
use Rattle.std.specs.FinMap.Entries.{find, is_sorted}
use Rattle.cp_path.specs.Text.{text_cmp}
use Rattle.cp_model.specs.declared.row.Content.{Content}
use Rattle.cp_model.specs.Place.{Label, Path}
use Rattle.cp_model.proofs.KeyedLemmas.{get-entries}
use Rattle.cp_model.specs.Keyed as keyed
use Rattle.cp_model.specs.Keyed.{Keyed}
use Rattle.cp_model.specs.Tree.{Tree, IsRooted, weight, weight_of, text_bytes}
use Rattle.cp_model.specs.Sums.{total}
use Rattle.cp_model.proofs.SumsLemmas.{sum_by-one, sum_by-moved}
use Rattle.cp_model.proofs.Sorted.{sorted-entries}
use Rattle.cp_model.proofs.Weights.{weight-moved}
use Rattle.cp_tree.specs.Branch.{below_label, child_rows, branch, children_len}
use Rattle.cp_tree.proofs.BranchLemmas.{entries-branch}
use Rattle.cp_tree.specs.Good.{AllRooted, IsGood}
use Rattle.cp_tree.specs.Sums.{children_weight}

module _ {X : Type 0} (f : Path × X → ℕ) where
  -- the sum over the edges of that over the rows below each
  abbrev pub children_total : List (Label × Keyed X) → ℕ
  children_total [] = 0
  children_total (e ∷ es) = total (λ r. f (e.0 ∷ r.0, r.1)) e.1 + children_total es

  sum_by_below_label : (a : Label) (rs : List (Path × X)) → sum_by f (below_label a rs) ≡ sum_by (λ r. f (a ∷ r.0, r.1)) rs
  sum_by_below_label a [] = refl
  sum_by_below_label a (r ∷ rs) = sum_by-cons f (a ∷ r.0, r.1) (below_label a rs) ∙ ap (λ n. f (a ∷ r.0, r.1) + n) (sum_by_below_label a rs) ∙ sym (sum_by-cons (λ r. f (a ∷ r.0, r.1)) r rs)

  sum_by_children : (es : List (Label × Keyed X)) → sum_by f (child_rows es) ≡ children_total es
  sum_by_children [] = refl
  sum_by_children (e ∷ es) = sum_by-append f (below_label e.0 (keyed.entries e.1)) (child_rows es) ∙ omega (arith, sum_by_below_label e.0 (keyed.entries e.1), sum_by_children es)

  -- the sum over a tree is that at its root and those below its edges
  pub total-branch : (x : X) (es : List (Label × Keyed X)) → T (is_sorted text_cmp es) → total f (branch x es) ≡ f ([], x) + children_total es
  total-branch x es s = ap (sum_by f) (entries-branch x es s) ∙ sum_by-cons f ([], x) (child_rows es) ∙ ap (λ n. f ([], x) + n) (sum_by_children es)

module _ {X : Type 0} where
  len_total : (m : Keyed X) → total (λ _. 1) m ≡ keyed.len m
  unfolding keyed.entries keyed.len
  len_total m = sum_by-one m.list

  children_len_total : (es : List (Label × Keyed X)) → children_total (λ _. 1) es ≡ children_len es
  children_len_total [] = refl
  children_len_total (e ∷ es) = omega (arith, len_total e.1, children_len_total es)

  -- a tree has as many places as the trees of its edges, and its root
  pub len-branch : (x : X) (es : List (Label × Keyed X)) → T (is_sorted text_cmp es) → keyed.len (branch x es) ≡ children_len es + 1
  len-branch x es s = sym (len_total (branch x es)) ∙ total-branch (λ _. 1) x es s ∙ omega (arith, children_len_total es)

  -- the tree of an edge has no more places than those of all edges
  pub len-find : (a : Label) (n : Keyed X) (es : List (Label × Keyed X)) → find text_cmp a es ≡ Some n → keyed.len n ≤ children_len es
  len-find a n [] is = absurd (cc)
  len-find a n (e ∷ es) is = elim (eq_by_cmp text_cmp a e.0) as (λ b. cond b (Some e.1) (find text_cmp a es) ≡ Some n → keyed.len n ≤ keyed.len e.1 + children_len es) [
    | true ↦ λ f. (let same_tree : e.1 ≡ n = cc in omega (arith, ap keyed.len same_tree))
    | false ↦ λ f. omega (arith, len-find a n es f)
  ] is

weight_child : (a : Label) (n : Tree) → IsRooted n → total (λ r. weight_of (a ∷ r.0, r.1)) n ≡ length a + weight n
unfolding weight
weight_child a n r = sym (sum_by-moved weight_of (a ∷ []) (keyed.entries n)) ∙ weight-moved (a ∷ []) (keyed.entries n) (sorted-entries n) (ap is_some (sym (get-entries n [])) ∙ r.root)

weight_children : (es : List (Label × Tree)) → AllRooted es → children_total weight_of es ≡ children_weight es
weight_children [] t = refl
weight_children (e ∷ es) t = omega (arith, weight_child e.0 e.1 t.0, weight_children es t.1)

-- the weight of a tree from those of its edges' trees
pub weight-branch : (x : Content) (es : List (Label × Tree)) → IsGood x es → weight (branch x es) ≡ PLACE_WEIGHT + text_bytes x + children_weight es
unfolding weight
weight-branch x es g = total-branch weight_of x es g.sorted ∙ omega (arith, weight_children es g.trees)
