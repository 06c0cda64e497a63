-- Bounds of numbers of the places of a tree within its limits.
use Rattle.cp_path.specs.declared.limits.TheConstants.{LABELS_MAX, LOC_MAX}
use Rattle.std.specs.Prelude.{◌≡◌, ℕ, ◌+◌, ◌-◌, ◌≤◌, Bool, true, false, cond, ◌||◌, nat_lt, List, [], ◌∷◌, ◌++◌, length, is_some, refl}
use Rattle.std.proofs.Common.{ap, ◌∙◌, arith, length-append}
use Rattle.std.proofs.lemmas.Bool.Decides.{nat_tests}
use Rattle.std.specs.declared.option.Option.TheVariants.{Some}
use Rattle.cp_model.specs.declared.row.Content.{Content}
use Rattle.cp_model.specs.Place.{Path, path_eq, at_target, over_limit, size}
use Rattle.cp_path.specs.PathOrder.{path_eq_equiv}
use Rattle.cp_model.specs.Keyed as keyed
use Rattle.cp_model.specs.Keyed.{look}
use Rattle.cp_model.specs.Subtrees.{with_subtree, is_there}
use Rattle.cp_model.specs.Tree.{Tree, IsTree}
use Rattle.cp_model.proofs.Strips.{strip-append}
use Rattle.cp_model.specs.Laws.{at_rest_or}
use Rattle.cp_model.proofs.Lookups.{get-replaced}
use Rattle.cp_model.specs.History.{IsLiteral}
use Rattle.cp_model.proofs.Rooted.{rows-literal}
use Rattle.cp_tree.specs.Rows.{greatest, deepest}

-- a place within the limits has few labels
pub few_labels : (q : Path) → over_limit (at_target q) ≡ false → length q ≤ LABELS_MAX
few_labels q h = by (nat_lt LABELS_MAX (length q)) (nat_lt LOC_MAX (size (at_target q))) refl h
  where
    by : (b d : Bool) → nat_lt LABELS_MAX (length q) ≡ b → (b || d) ≡ false → length q ≤ LABELS_MAX
    by true d e h = absurd (cc)
    by false d e h = grind (arith, nat_tests)

module _ (n : ℕ) (f : Path → ℕ) where
  -- where each path that is there has a number of at most n, so has the greatest
  pub greatest_within : {X : Type 0} (es : List (Path × X)) → ((r : Path) → is_some (look r es) ≡ true → f r ≤ n) → greatest (λ e. f e.0) es ≤ n
  greatest_within [] h = omega arith
  greatest_within (e ∷ es) h =
      let here = h e.0 (ap (λ b. is_some (cond b (Some e.1) (look e.0 es))) (path_eq_equiv.refl e.0)) in
      omega (arith, here, greatest_within es (λ r i. h r (later (path_eq r e.0) r i)))
    where
      later : (b : Bool) (r : Path) → is_some (look r es) ≡ true → is_some (cond b (Some e.1) (look r es)) ≡ true
      later true r i = refl
      later false r i = i

-- what is among rows that are put at p is there behind p
pub there_replaced : (t : Tree) (p r : Path) (es : List (Path × Content)) → is_some (look r es) ≡ true → is_there (with_subtree p es t) (p ++ r) ≡ true
there_replaced t p r es i = ap is_some (get-replaced p es t (p ++ r) ∙ ap (λ o. at_rest_or o (λ s. look s es) (keyed.get t (p ++ r))) (strip-append p r)) ∙ i

-- rows that are put at p into a tree within its limits lie no deeper than those
pub deepest-fits : (t : Tree) (p : Path) (es : List (Path × Content)) → IsLiteral es → IsTree (with_subtree p es t) → length p + deepest es ≤ LABELS_MAX
deepest-fits t p es l h =
    let at : (r : Path) → is_some (look r es) ≡ true → length p + length r ≤ LABELS_MAX = λ r i. (let few = few_labels (p ++ r) (h.places (p ++ r) (there_replaced t p r es i)) in omega (arith, few, length-append p r)) in
    let all = greatest_within (LABELS_MAX - length p) (λ r. length r) es (λ r i. omega (arith, at r i)) in
    omega (arith, at [] (rows-literal es l).root, all)
