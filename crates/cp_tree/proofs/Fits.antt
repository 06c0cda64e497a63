-- When a tree into which a subtree is put stays within the limits.
use Rattle.cp_model.specs.declared.limits.TheConstants.{NODES_MAX, WEIGHT_MAX}
use Rattle.cp_path.specs.declared.limits.TheConstants.{LABELS_MAX, LABEL_MAX, LOC_MAX}
use Rattle.std.specs.Prelude.{◌-◌, ◌≡◌, ℕ, ◌+◌, ◌≤◌, true, false, cond, ◌||◌, nat_lt, List, [], ◌∷◌, ◌++◌, length, max, sum_by, is_some, refl}
use Rattle.std.proofs.Common.{sym, ap, ◌∙◌, T, arith, length-append}
use Rattle.std.proofs.lemmas.List.Sums.{sum_by-append}
use Rattle.std.proofs.lemmas.Bool.Decides.{nat_tests}
use Rattle.std.specs.declared.option.Option.TheVariants.{None, Some}
use Rattle.std.specs.FinMap.Entries.{is_sorted}
use Rattle.cp_model.specs.declared.row.Content.{Content}
use Rattle.cp_model.specs.Place.{Label, Path, path_cmp, path_eq, at_target, over_limit, size, strip}
use Rattle.cp_path.proofs.Same.{path_eq-same}
use Rattle.cp_model.specs.Keyed as keyed
use Rattle.cp_model.specs.Keyed.{look}
use Rattle.cp_model.specs.Subtrees.{with_subtree}
use Rattle.cp_model.specs.Tree.{Tree, IsTree, weight, weight_of, last_bytes}
use Rattle.cp_model.proofs.Strips.{strip_is}
use Rattle.cp_model.specs.Laws.{at_rest_or}
use Rattle.cp_model.proofs.Lookups.{get-replaced}
use Rattle.cp_model.proofs.SumsLemmas.{len-replaced, weight-replaced}
use Rattle.cp_model.proofs.Weights.{weight-moved}
use Rattle.cp_model.proofs.Rooted.{AreRows, IsUnderNode, rooted-replaced}
use Rattle.cp_model.proofs.Kept.{texts-replaced, spelled-replaced}
use Rattle.cp_tree.specs.Rows.{greatest, path_size, reach_of}
use Rattle.cp_tree.specs.declared.reach.Reach.{Reach}

-- a whole tree put under a node leaves a tree, where what it adds is few and light enough, and its places are within their limits
pub tree-fits : (t : Tree) (p : Path) (es : List (Path × Content)) → IsTree t → AreRows es → T (is_sorted path_cmp es) → IsUnderNode t p → last_bytes p ≤ LABEL_MAX → keyed.len t + length es ≤ NODES_MAX →
    weight t + last_bytes p + sum_by weight_of es ≤ WEIGHT_MAX → ((r : Path) → is_some (look r es) ≡ true → over_limit (at_target (p ++ r)) ≡ false) → IsTree (with_subtree p es t)
tree-fits t p es h d s u l n w f = record {
  rooted = rooted-replaced t p es h.rooted d u;
  within = record {
    nodes = omega (arith, n, len-replaced p es t s);
    weighs = omega (arith, w, weight-replaced p es t s, weight-moved p es s d.root);
  };
  places = λ r i.
      elim (strip p r) as (λ o. strip p r ≡ o → is_some (at_rest_or o (λ s. look s es) (keyed.get t r)) ≡ true → over_limit (at_target r) ≡ false) [
        | None ↦ λ _ j. h.places r j
        | Some s ↦ λ k j. ap (λ q. over_limit (at_target q)) (strip_is p r s k) ∙ f s j
      ] refl (ap is_some (sym (get-replaced p es t r)) ∙ i);
  texts = texts-replaced t p es h.texts d;
  spelled = spelled-replaced t p es h.spelled d l;
}

-- few labels and short ones are within the limits
pub within-limit : (q : Path) → length q ≤ LABELS_MAX → path_size q ≤ LOC_MAX - 1 → over_limit (at_target q) ≡ false
within-limit q few short =
    let a : nat_lt LABELS_MAX (length q) ≡ false = grind (arith, nat_tests) in
    let small : size (at_target q) ≤ LOC_MAX = omega (arith, short) in
    let b : nat_lt LOC_MAX (size (at_target q)) ≡ false = grind (arith, nat_tests) in
    ap (λ z. z || nat_lt LOC_MAX (size (at_target q))) a ∙ b

-- a row that is there has no more than the greatest number
pub at_most_greatest : (f : Path → ℕ) (es : List (Path × Content)) (r : Path) → is_some (look r es) ≡ true → f r ≤ greatest (λ e. f e.0) es
at_most_greatest f [] r i = absurd (cc)
at_most_greatest f (e ∷ es) r i =
    elim (path_eq r e.0) as (λ b. path_eq r e.0 ≡ b → is_some (cond b (Some e.1) (look r es)) ≡ true → f r ≤ max (f e.0) (greatest (λ e. f e.0) es)) [
      | true ↦ λ k _. omega (arith, ap f (path_eq-same r e.0 k))
      | false ↦ λ _ j. omega (arith, at_most_greatest f es r j)
    ] refl i

-- a whole tree put under a node leaves a tree, where its reach and that of the place are within the limits together
pub reach-fits : (t : Tree) (p : Path) (es : List (Path × Content)) (z : Reach) → z ≡ reach_of es → IsTree t → AreRows es → T (is_sorted path_cmp es) → IsUnderNode t p → last_bytes p ≤ LABEL_MAX → keyed.len t + z.nodes ≤ NODES_MAX →
    weight t + last_bytes p + z.inner ≤ WEIGHT_MAX → length p + z.depth ≤ LABELS_MAX → path_size p + z.size ≤ LOC_MAX - 1 → IsTree (with_subtree p es t)
unfolding reach_of
reach-fits t p es z e h d s u l n w deep large =
    tree-fits t p es h d s u l (omega (arith, n, ap (λ r. r.nodes) e)) (omega (arith, w, ap (λ r. r.inner) e)) (λ r i.
    within-limit (p ++ r) (omega (arith, deep, ap (λ r. r.depth) e, at_most_greatest (λ q. length q) es r i, length-append p r))
    (omega (arith, large, ap (λ r. r.size) e, at_most_greatest path_size es r i, sum_by-append (λ (a : Label). length a + 1) p r)))
