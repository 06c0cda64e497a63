-- Rows that rise: each is the one that is found at its path. So what holds of all that is found holds of each row.
use Rattle.std.proofs.Common.{◌≡◌, ◌≤◌, true, false, cond, List, [], ◌∷◌, refl, sym, ap, ◌∙◌, subst, T, length, arith}
use Rattle.std.specs.FinMap.Entries.{below_all, is_sorted}
use Rattle.std.specs.List.{AllByRecursion}
use Rattle.std.specs.Ordering.{is_eq, is_lt}
use Rattle.std.specs.declared.cmp.Ordering.{Ordering}
use Rattle.std.specs.declared.cmp.Ordering.TheVariants.{Less, Equal, Greater}
use Rattle.std.specs.declared.option.Option.TheVariants.{Some}
use Rattle.cp_path.proofs.Same.{path_eq-same}
use Rattle.cp_path.specs.PathOrder.{path_eq_equiv, path_ties}
use Rattle.cp_path.specs.declared.limits.TheConstants.{TEXT_MAX}
use Rattle.cp_model.specs.History.{IsLiteral}
use Rattle.cp_model.specs.Keyed as keyed
use Rattle.cp_model.specs.Keyed.{look}
use Rattle.cp_model.specs.Literals.{literal_rows}
use Rattle.cp_model.specs.Place.{Path, path_cmp, path_eq}
use Rattle.cp_model.specs.Tree.{text_bytes}
use Rattle.cp_model.specs.declared.limits.TheConstants.{NODES_MAX}
use Rattle.cp_model.specs.declared.literal.Literal.{Literal}
use Rattle.cp_model.specs.declared.row.Content.{Content}
use Rattle.cp_model.proofs.Sorted.{parts_of}
use Rattle.cp_tree.proofs.BranchLemmas.{entries-from_entries}
use Rattle.cp_tree.proofs.SumsLemmas.{len_entries}
use Rattle.cp_frame.specs.Sound.{IsSoundTree}

equal_not_less : (o : Ordering) → is_eq o ≡ true → T (is_lt o) → ⊥
equal_not_less Less e h = absurd (cc)
equal_not_less Equal e h = h
equal_not_less Greater e h = h

-- a path that comes after another is not that one
after_apart : (k r : Path) → T (is_lt (path_cmp k r)) → path_eq r k ≡ true → ⊥
after_apart k r h e =
    let less : T (is_lt (path_cmp k k)) = subst (λ p. T (is_lt (path_cmp k p))) (path_eq-same r k e) h in
    equal_not_less (path_cmp k k) (sym (path_ties k k) ∙ path_eq_equiv.refl k) less

-- what is found among rows after a path is at another one
found_apart : (k : Path) (es : List (Path × Content)) → T (below_all path_cmp k es) → (p : Path) (c : Content) → look p es ≡ Some c → path_eq p k ≡ true → ⊥
found_apart k [] h p c i e = absurd (cc)
found_apart k (s ∷ es) h p c i e =
    let parts = parts_of (is_lt (path_cmp k s.0)) (below_all path_cmp k es) h in
    elim (path_eq p s.0) as (λ b. path_eq p s.0 ≡ b → cond b (Some s.1) (look p es) ≡ Some c → ⊥) [
      | true ↦ λ f j. after_apart k s.0 parts.0 (subst (λ q. path_eq q k ≡ true) (path_eq-same p s.0 f) e)
      | false ↦ λ f j. found_apart k es parts.1 p c j e
    ] refl i

module _ (P : Path × Content → Type 0) where
  -- what holds of all that is found in rows that rise holds of each row
  pub each_found : (es : List (Path × Content)) → T (is_sorted path_cmp es) → ((p : Path) (c : Content) → look p es ≡ Some c → P (p, c)) → AllByRecursion P es
  each_found [] h f = tt
  each_found (e ∷ es) h f =
      let parts = parts_of (below_all path_cmp e.0 es) (is_sorted path_cmp es) h in
      (f e.0 e.1 (ap (λ b. cond b (Some e.1) (look e.0 es)) (path_eq_equiv.refl e.0)), each_found es parts.1 (λ p c i. f p c (later parts.0 p c i)))
    where
      later : T (below_all path_cmp e.0 es) → (p : Path) (c : Content) → look p es ≡ Some c → cond (path_eq p e.0) (Some e.1) (look p es) ≡ Some c
      later below p c i =
          elim (path_eq p e.0) as (λ b. path_eq p e.0 ≡ b → cond b (Some e.1) (look p es) ≡ Some c) [
            | true ↦ λ k. absurd (found_apart e.0 es below p c i k)
            | false ↦ λ k. i
          ] refl

-- the texts of a literal are no longer than a text may be
pub literal_texts : (rows : List (Path × Content)) → IsLiteral rows → AllByRecursion (λ e. text_bytes e.1 ≤ TEXT_MAX) rows
literal_texts rows l = each_found (λ e. text_bytes e.1 ≤ TEXT_MAX) rows l.sorted l.texts

-- a tree within every limit has short texts and few places
pub sound_writable : (l : Literal) → IsSoundTree l → AllByRecursion (λ e. text_bytes e.1 ≤ TEXT_MAX) (literal_rows l) × (length (literal_rows l) ≤ NODES_MAX)
sound_writable l h =
    let rows = literal_rows l in
    let same : keyed.entries (keyed.from_entries rows) ≡ rows = entries-from_entries rows h.0.sorted in
    (literal_texts rows h.0, omega (arith, len_entries (keyed.from_entries rows), ap length same, h.1.within.nodes))
