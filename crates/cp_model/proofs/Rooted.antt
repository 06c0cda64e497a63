-- Trees stay rooted: where a subtree is replaced or dropped.
use Rattle.cp_path.specs.declared.limits.TheConstants.{TEXT_MAX}
use Rattle.std.specs.Prelude.{ℕ, ◌≤◌, ◌≡◌, true, false, List, [], ◌∷◌, ◌++◌, is_some, refl}
use Rattle.std.proofs.Common.{sym, ap, ◌∙◌, append_assoc, arith}
use Rattle.std.specs.declared.option.Option.TheVariants.{None, Some}
use Rattle.cp_model.specs.declared.row.Content.{Content}
use Rattle.cp_model.specs.declared.row.Content.TheVariants.{Node}
use Rattle.cp_model.specs.Place.{Label, Path, child, strip}
use Rattle.cp_model.specs.Keyed as keyed
use Rattle.cp_model.specs.Keyed.{look}
use Rattle.cp_model.specs.Subtrees.{is_there, below, without, with_subtree}
use Rattle.cp_model.specs.Tree.{Tree, text_bytes, last_bytes, CanBeSpelled, IsRooted, IsTree}
use Rattle.cp_model.specs.History.{IsLiteral}
use Rattle.cp_model.proofs.Strips.{strip_is, strip-append, strip-snoc, append-nil, snoc-same, path_ind}
use Rattle.cp_model.specs.Laws.{at_rest_or}
use Rattle.cp_model.proofs.Lookups.{find-below, get-without, get-replaced, find-from_entries}

-- what is above p is a node
abbrev pub IsUnderNode : Tree → Path → Type 0
IsUnderNode t p = (r : Path) (a : Label) → r ++ a ∷ [] ≡ p → keyed.get t r ≡ Some Node

-- rows of a whole tree: the root is there, what is above a row is a node, and labels, numbers and texts are within their limits
pub record AreRows (es : List (Path × Content)) : Type 0 where
  pub root : is_some (look [] es) ≡ true
  pub parents : (r : Path) (a : Label) → is_some (look (r ++ a ∷ []) es) ≡ true → look r es ≡ Some Node
  pub texts : (r : Path) (c : Content) → look r es ≡ Some c → text_bytes c ≤ TEXT_MAX
  pub spelled : (r : Path) (c : Content) → look r es ≡ Some c → CanBeSpelled r c

-- the last label of a path is no longer than that of a longer path that ends so
pub last_bytes-after : (p s : Path) → last_bytes s ≤ last_bytes (p ++ s)
last_bytes-after [] s = omega arith
last_bytes-after (a ∷ []) [] = omega arith
last_bytes-after (a ∷ []) (b ∷ s) = omega arith
last_bytes-after (a ∷ b ∷ p) s = last_bytes-after (b ∷ p) s

-- the last label of a path is that of one of its parts
pub last_bytes-parts : (n : ℕ) (p s : Path) → last_bytes p ≤ n → last_bytes s ≤ n → last_bytes (p ++ s) ≤ n
last_bytes-parts n [] s h k = k
last_bytes-parts n (a ∷ []) [] h k = h
last_bytes-parts n (a ∷ []) (b ∷ s) h k = k
last_bytes-parts n (a ∷ b ∷ p) s h k = last_bytes-parts n (b ∷ p) s h k

-- what can be spelled below a place can be spelled from there on
pub spelled-after : (p s : Path) (c : Content) → CanBeSpelled (p ++ s) c → CanBeSpelled s c
spelled-after p s c h = record { label = omega (arith, h.label, last_bytes-after p s); number = h.number }

-- a place that is there stands under a node
pub under-there : (t : Tree) (p : Path) → IsRooted t → is_there t p ≡ true → IsUnderNode t p
under-there t p h i r a e = h.parents r a (ap (is_there t) e ∙ i)

-- a child of a node stands under a node
pub under-child : (t : Tree) (p : Path) (a : Label) → keyed.get t p ≡ Some Node → IsUnderNode t (child p a)
under-child t p a n r b e = ap (keyed.get t) (snoc-same r p b a e) ∙ n

-- a whole tree put under a node leaves a tree rooted
pub rooted-replaced : (t : Tree) (p : Path) (es : List (Path × Content)) → IsRooted t → AreRows es → IsUnderNode t p → IsRooted (with_subtree p es t)
rooted-replaced t p es h d up = record { root = ap is_some (get-replaced p es t []) ∙ root_at p; parents = parents }
  where
    root_at : (p : Path) → is_some (at_rest_or (strip p []) (λ s. look s es) (keyed.get t [])) ≡ true
    root_at [] = d.root
    root_at (a ∷ p) = h.root

    over : (r : Path) (a : Label) → strip p r ≡ None → (s : Path) → r ++ a ∷ [] ≡ p ++ s → keyed.get t r ≡ Some Node
    over r a n = path_ind (λ s. r ++ a ∷ [] ≡ p ++ s → keyed.get t r ≡ Some Node)
        (λ e. up r a (e ∙ append-nil p))
        (λ s b _ e. let k = ap (strip p) (snoc-same r (p ++ s) a b (e ∙ sym (append_assoc p s (b ∷ [])))) in absurd (cc (strip-append p s)))

    parents : (r : Path) (a : Label) → is_there (with_subtree p es t) (r ++ a ∷ []) ≡ true → keyed.get (with_subtree p es t) r ≡ Some Node
    parents r a i = get-replaced p es t r ∙ elim (strip p r) as (λ o. strip p r ≡ o → at_rest_or o (λ s. look s es) (keyed.get t r) ≡ Some Node) [
      | Some s ↦ λ k. d.parents s a (sym (ap is_some (get-replaced p es t (r ++ a ∷ []) ∙ ap (λ o. at_rest_or o (λ s. look s es) (keyed.get t (r ++ a ∷ []))) (strip-snoc p r s a k))) ∙ i)
      | None ↦ λ n. elim (strip p (r ++ a ∷ [])) as (λ o. strip p (r ++ a ∷ []) ≡ o → is_some (at_rest_or o (λ s. look s es) (keyed.get t (r ++ a ∷ []))) ≡ true → keyed.get t r ≡ Some Node) [
        | None ↦ λ _ j. h.parents r a j
        | Some s ↦ λ k _. over r a n s (strip_is p (r ++ a ∷ []) s k)
      ] refl (sym (ap is_some (get-replaced p es t (r ++ a ∷ []))) ∙ i)
    ] refl

-- a subtree dropped leaves a tree rooted
pub rooted-without : (t : Tree) (p : Path) (a : Label) → IsRooted t → IsRooted (without (child p a) t)
rooted-without t p a h = record { root = ap is_some (get-without (child p a) t []) ∙ root_at p; parents = parents }
  where
    root_at : (p : Path) → is_some (at_rest_or (strip (child p a) []) (λ _. None) (keyed.get t [])) ≡ true
    root_at [] = h.root
    root_at (b ∷ p) = h.root

    parents : (r : Path) (l : Label) → is_there (without (child p a) t) (r ++ l ∷ []) ≡ true → keyed.get (without (child p a) t) r ≡ Some Node
    parents r l i = get-without (child p a) t r ∙ elim (strip (child p a) r) as (λ o. strip (child p a) r ≡ o → at_rest_or o (λ _. None) (keyed.get t r) ≡ Some Node) [
      | Some s ↦ λ k.
          let gone : is_there (without (child p a) t) (r ++ l ∷ []) ≡ false = ap is_some (get-without (child p a) t (r ++ l ∷ [])) ∙ ap (λ o. is_some (at_rest_or o (λ _. None) (keyed.get t (r ++ l ∷ [])))) (strip-snoc (child p a) r s l k) in
          absurd (cc)
      | None ↦ λ n. elim (strip (child p a) (r ++ l ∷ [])) as (λ o. is_some (at_rest_or o (λ _. None) (keyed.get t (r ++ l ∷ []))) ≡ true → keyed.get t r ≡ Some Node) [
        | None ↦ λ j. h.parents r l j
        | Some s ↦ λ j. absurd (cc)
      ] (ap is_some (sym (get-without (child p a) t (r ++ l ∷ []))) ∙ i)
    ] refl

-- the subtree at a place that is there is a whole tree
pub rows-below : (t : Tree) (q : Path) → IsTree t → is_there t q ≡ true → AreRows (below q t)
rows-below t q h i = record {
  root = ap is_some (find-below q [] t) ∙ ap (is_there t) (append-nil q) ∙ i;
  parents = λ r a j. find-below q r t ∙ h.rooted.parents (q ++ r) a (ap (is_there t) (append_assoc q r (a ∷ [])) ∙ sym (ap is_some (find-below q (r ++ a ∷ []) t)) ∙ j);
  texts = λ r c e. h.texts (q ++ r) c (sym (find-below q r t) ∙ e);
  spelled = λ r c e. spelled-after q r c (h.spelled (q ++ r) c (sym (find-below q r t) ∙ e));
}

-- the rows of a literal are a whole tree
pub rows-literal : (es : List (Path × Content)) → IsLiteral es → AreRows es
rows-literal es h = record {
  root = ap is_some (sym (find-from_entries es [])) ∙ h.rooted.root;
  parents = λ r a i. sym (find-from_entries es r) ∙ h.rooted.parents r a (ap is_some (find-from_entries es (r ++ a ∷ [])) ∙ i);
  texts = h.texts;
  spelled = h.spelled;
}
