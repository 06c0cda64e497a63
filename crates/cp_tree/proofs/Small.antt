-- Trees whose numbers are within the limits.
use Rattle.cp_model.specs.declared.limits.TheConstants.{PLACE_WEIGHT, WEIGHT_MAX}
use Rattle.cp_path.specs.declared.limits.TheConstants.{LABELS_MAX, LOC_MAX}
use Rattle.std.specs.Prelude.{◌≡◌, ◌+◌, ◌-◌, ◌≤◌, true, false, cond, ◌||◌, Bool, nat_lt, List, [], ◌∷◌, length, is_some, refl}
use Rattle.std.proofs.Common.{ap, subst, ◌∙◌, arith}
use Rattle.std.proofs.lemmas.Bool.Decides.{nat_tests}
use Rattle.std.specs.declared.option.Option.TheVariants.{Some}
use Rattle.std.specs.Ordering.{eq_by_cmp}
use Rattle.std.specs.FinMap.Entries.{find}
use Rattle.cp_path.specs.Text.{text_cmp}
use Rattle.cp_model.specs.declared.row.Content.{Content}
use Rattle.cp_model.specs.Place.{Label, Path, at_target, over_limit, size}
use Rattle.cp_model.specs.Keyed as keyed
use Rattle.cp_model.specs.Keyed.{look}
use Rattle.cp_model.specs.Tree.{Tree, IsTree, weight, text_bytes}
use Rattle.cp_model.proofs.KeyedLemmas.{get-entries}
use Rattle.cp_tree.specs.Branch.{branch}
use Rattle.cp_tree.specs.Good.{IsGood}
use Rattle.cp_tree.specs.Rows.{path_size, deepest}
use Rattle.cp_tree.specs.Sums.{children_weight, sums_of, AreSmall, AreChildren, IsSmall}
use Rattle.cp_tree.proofs.SumsLemmas.{depth-branch, size-branch}
use Rattle.cp_tree.proofs.Tallies.{few_labels, greatest_within}
use Rattle.cp_tree.proofs.Totals.{len-branch, weight-branch}

-- a place within the limits has a small size
pub short_labels : (q : Path) → over_limit (at_target q) ≡ false → path_size q ≤ LOC_MAX - 1
short_labels q h = by (nat_lt LABELS_MAX (length q)) (nat_lt LOC_MAX (size (at_target q))) refl refl h
  where
    by : (b d : Bool) → nat_lt LABELS_MAX (length q) ≡ b → nat_lt LOC_MAX (size (at_target q)) ≡ d → (b || d) ≡ false → path_size q ≤ LOC_MAX - 1
    by true d e f h = absurd (cc)
    by false true e f h = absurd (cc)
    by false false e f h = (let small : size (at_target q) ≤ LOC_MAX = grind (arith, nat_tests) in omega (arith, small))

-- a tree within every limit
pub small_tree : (t : Tree) → IsTree t → IsSmall t
small_tree t h = record {
  nodes = h.within.nodes;
  inner = h.within.weighs;
  size = greatest_within (LOC_MAX - 1) path_size (keyed.entries t) (λ r i. short_labels r (h.places r (ap is_some (get-entries t r) ∙ i)));
  depth = greatest_within LABELS_MAX (λ r. length r) (keyed.entries t) (λ r i. few_labels r (h.places r (ap is_some (get-entries t r) ∙ i)));
}

-- the edges of a tree with small numbers
pub children_of : (x : Content) (es : List (Label × Tree)) → IsGood x es → IsSmall (branch x es) → AreChildren es
children_of x es g s = record {
  sorted = g.sorted;
  rooted = g.trees;
  small = record {
    nodes = omega (arith, s.nodes, len-branch x es g.sorted);
    inner = omega (arith, s.inner, weight-branch x es g);
    size = omega (arith, s.size, size-branch x es g);
    depth = omega (arith, s.depth, depth-branch x es g);
  };
}

-- the tree of an edge has smaller numbers
pub small_found : (b : Label) (n : Tree) (es : List (Label × Tree)) → find text_cmp b es ≡ Some n → AreSmall (sums_of es) → IsSmall n
small_found b n [] is s = absurd (cc)
small_found b n (e ∷ es) is s =
    elim (eq_by_cmp text_cmp b e.0) as (λ t. cond t (Some e.1) (find text_cmp b es) ≡ Some n → IsSmall n) [
      | true ↦ λ f. (let same_tree : e.1 ≡ n = cc in subst IsSmall same_tree (record { nodes = omega (arith, s.nodes); inner = omega (arith, s.inner); size = omega (arith, s.size); depth = omega (arith, s.depth) }))
      | false ↦ λ f. small_found b n es f (record { nodes = omega (arith, s.nodes); inner = omega (arith, s.inner); size = omega (arith, s.size); depth = omega (arith, s.depth) })
    ] is
