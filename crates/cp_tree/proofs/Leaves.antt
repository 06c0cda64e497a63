-- A root alone, and a leaf added below a node: when these are trees, and what a leaf adds.
use Rattle.cp_model.specs.declared.limits.TheConstants.{NODES_MAX, PLACE_WEIGHT, WEIGHT_MAX}
use Rattle.cp_path.specs.declared.limits.TheConstants.{LABEL_MAX, TEXT_MAX}
use Rattle.std.specs.Prelude.{◌≡◌, ◌+◌, ◌≤◌, true, false, cond, [], ◌∷◌, ◌++◌, length, sum_by, is_some, refl}
use Rattle.std.proofs.Common.{sym, ap, subst, ◌∙◌, arith}
use Rattle.std.proofs.lemmas.List.Sums.{sum_by-cons}
use Rattle.std.specs.declared.option.Option.{Option}
use Rattle.std.specs.declared.option.Option.TheVariants.{None, Some}
use Rattle.cp_model.specs.declared.row.Content.{Content}
use Rattle.cp_model.specs.declared.row.Content.TheVariants.{Node}
use Rattle.cp_model.specs.Place.{Label, Path, child, path_eq, at_target, over_limit, strip}
use Rattle.cp_model.proofs.KeyedLemmas.{same_map, get-insert}
use Rattle.cp_model.specs.Keyed as keyed
use Rattle.cp_model.specs.Keyed.{look}
use Rattle.cp_model.specs.Subtrees.{with_subtree, is_there}
use Rattle.cp_model.specs.Tree.{Tree, IsTree, IsRooted, weight, weight_of, text_bytes, IsNumber, CanBeSpelled}
use Rattle.cp_model.proofs.Strips.{strip_is, append-nil}
use Rattle.cp_model.specs.Laws.{at_rest_or}
use Rattle.cp_model.proofs.Lookups.{find-below, find-from_entries, get-replaced, path_eq-append, path_eq-sym, rest_is}
use Rattle.cp_model.proofs.SumsLemmas.{below-none, last_bytes_child}
use Rattle.cp_model.proofs.Rooted.{AreRows, under-child}
use Rattle.cp_model.proofs.Kept.{closed-tree}
use Rattle.cp_tree.specs.Rows.{root_entries, single}
use Rattle.cp_tree.proofs.Built.{entries-single}
use Rattle.cp_tree.proofs.Fits.{tree-fits}

-- ---- a root alone

module _ (c : Content) where
  -- only the root is there
  pub alone-root : (p : Path) → is_some (look p (root_entries c)) ≡ true → p ≡ []
  alone-root [] i = refl
  alone-root (a ∷ p) i = absurd (cc)

  alone-texts : text_bytes c ≤ TEXT_MAX → (p : Path) (d : Content) → look p (root_entries c) ≡ Some d → text_bytes d ≤ TEXT_MAX
  alone-texts h [] d e = (let same : c ≡ d = cc in subst (λ x. text_bytes x ≤ TEXT_MAX) same h)
  alone-texts h (a ∷ p) d e = absurd (cc)

  no_child : (p : Path) (a : Label) → is_some (look (child p a) (root_entries c)) ≡ false
  no_child [] a = refl
  no_child (b ∷ p) a = refl

  alone-spelled : IsNumber c → (p : Path) (d : Content) → look p (root_entries c) ≡ Some d → CanBeSpelled p d
  alone-spelled n [] d e = (let same : c ≡ d = cc in record { label = omega arith; number = subst IsNumber same n })
  alone-spelled n (a ∷ p) d e = absurd (cc)

  -- what is asked of the rows of a tree holds of it
  pub alone-rows : text_bytes c ≤ TEXT_MAX → IsNumber c → AreRows (root_entries c)
  alone-rows h n = record {
    root = refl;
    parents = λ p a i. absurd (let no : is_some (look (child p a) (root_entries c)) ≡ false = no_child p a in cc);
    texts = alone-texts h;
    spelled = alone-spelled n;
  }

  pub single-get : (p : Path) → keyed.get (single c) p ≡ look p (root_entries c)
  single-get p = find-from_entries (root_entries c) p

  pub single-len : keyed.len (single c) ≡ 1
  unfolding keyed.len keyed.entries
  single-len = ap length (entries-single c)

  pub single-weight : weight (single c) ≡ PLACE_WEIGHT + text_bytes c
  unfolding weight
  single-weight = ap (sum_by weight_of) (entries-single c) ∙ omega (arith, sum_by-cons weight_of ([], c) [])

  -- it is a tree within every limit
  pub single-tree : text_bytes c ≤ TEXT_MAX → IsNumber c → IsTree (single c)
  single-tree h n = record {
    rooted = record {
      root = ap is_some (single-get []);
      parents = λ p a i. absurd (let no : is_there (single c) (child p a) ≡ false = ap is_some (single-get (child p a)) ∙ no_child p a in cc);
    };
    within = record { nodes = omega (arith, single-len); weighs = omega (arith, single-weight, h) };
    places = λ p i. ap (λ q. over_limit (at_target q)) (alone-root p (sym (ap is_some (single-get p)) ∙ i));
    texts = λ p d e. alone-texts h p d (sym (single-get p) ∙ e);
    spelled = λ p d e. alone-spelled n p d (sym (single-get p) ∙ e);
  }

-- ---- a leaf below a node

-- below a place that isn't there is nothing
pub nothing-below : (t : Tree) (p r : Path) → IsRooted t → keyed.get t p ≡ None → keyed.get t (p ++ r) ≡ None
nothing-below t p r h n = sym (find-below p r t) ∙ ap (look r) (below-none t p (closed-tree t h) n)

-- a leaf at a new place is one more entry
pub leaf-insert : (t : Tree) (p : Path) (c : Content) → IsRooted t → keyed.get t p ≡ None → with_subtree p (root_entries c) t ≡ keyed.insert t p c
leaf-insert t p c h n = same_map (with_subtree p (root_entries c) t) (keyed.insert t p c) (λ r.
    get-replaced p (root_entries c) t r ∙ cases r (strip p r) refl ∙ ap (λ b. cond b (Some c) (keyed.get t r)) (sym (same_as r)) ∙ sym (get-insert t p c r))
  where
    same_as : (r : Path) → path_eq r p ≡ rest_is (strip p r) []
    same_as r = path_eq-sym r p ∙ ap (λ q. path_eq q r) (sym (append-nil p)) ∙ path_eq-append p [] r

    cases : (r : Path) (o : Option Path) → strip p r ≡ o → at_rest_or o (λ s. look s (root_entries c)) (keyed.get t r) ≡ cond (rest_is o []) (Some c) (keyed.get t r)
    cases r None e = refl
    cases r (Some z) e =
        ap (λ o. cond (path_eq z []) (Some c) o) (sym (ap (keyed.get t) (strip_is p r z e) ∙ nothing-below t p z h n))
        ∙ ap (λ b. cond b (Some c) (keyed.get t r)) (path_eq-sym z [])

-- a leaf leaves a tree, where there is room and its place is within the limits
pub leaf-fits : (t : Tree) (p : Path) (a : Label) (c : Content) → IsTree t → keyed.get t p ≡ Some Node → over_limit (at_target (child p a)) ≡ false → length a ≤ LABEL_MAX → text_bytes c ≤ TEXT_MAX → IsNumber c →
    keyed.len t + 1 ≤ NODES_MAX → weight t + PLACE_WEIGHT + length a + text_bytes c ≤ WEIGHT_MAX → IsTree (with_subtree (child p a) (root_entries c) t)
leaf-fits t p a c h n near short s whole l w =
    tree-fits t (child p a) (root_entries c) h (alone-rows c s whole) tt (under-child t p a n) (omega (arith, last_bytes_child p a, short)) (omega (arith, l)) (omega (arith, w, last_bytes_child p a, sum_by-cons weight_of ([], c) [])) within
  where
    within : (r : Path) → is_some (look r (root_entries c)) ≡ true → over_limit (at_target (child p a ++ r)) ≡ false
    within [] i = ap (λ q. over_limit (at_target q)) (append-nil (child p a)) ∙ near
    within (b ∷ r) i = absurd (cc)
