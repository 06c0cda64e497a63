-- Children of a place.
use Rattle.std.proofs.Common.{arith, ℕ, suc, ◌==◌, ◌+◌, ◌≤◌, ◌≡◌, true, false, cond, ◌&&◌, [], ◌∷◌, refl, sym, ap, ◌∙◌, take, drop, length}
use Rattle.std.proofs.lemmas.Bool.Decides.{nat_tests}
use Rattle.std.specs.Borrow.{Bor}
use Rattle.std.specs.Option.{MatchOption, option_copied}
use Rattle.std.specs.declared.option.Option.{Option}
use Rattle.std.specs.declared.option.Option.TheVariants.{None, Some}
use Rattle.cp_path.proofs.Same.{text_eq-same}
use Rattle.cp_model.specs.Past.{is_child, one_label}
use Rattle.cp_model.specs.Place.{Path, path_eq, label_eq, strip}
use Rattle.cp_store.proofs.RowsTold.{itself}

strip_apart : (q k : Path) → path_eq (take (length q) k) q ≡ false → strip q k ≡ None
strip_apart [] k e = absurd (cc)
strip_apart (a ∷ q) [] e = refl
strip_apart (a ∷ q) (b ∷ k) e =
    elim (label_eq a b) as (λ c. label_eq a b ≡ c → cond c (strip q k) None ≡ None) [
      | true ↦ λ h. strip_apart q k (sym (ap (λ d. d && path_eq (take (length q) k) q) (ap (λ x. label_eq x a) (sym (text_eq-same a b h)) ∙ itself a)) ∙ e)
      | false ↦ λ _. refl
    ] refl

strip_take : (q k : Path) → length q ≤ length k → path_eq (take (length q) k) q ≡ true → strip q k ≡ Some (drop (length q) k)
strip_take [] k fits e = refl
strip_take (a ∷ q) [] fits e = absurd (omega (arith, fits))
strip_take (a ∷ q) (b ∷ k) fits e =
    elim (label_eq b a) as (λ c. label_eq b a ≡ c → (c && path_eq (take (length q) k) q) ≡ true → cond (label_eq a b) (strip q k) None ≡ Some (drop (length q) k)) [
      | true ↦ λ h f. ap (λ c. cond c (strip q k) None) (ap (label_eq a) (text_eq-same b a h) ∙ itself a) ∙ strip_take q k (omega (arith, fits)) f
      | false ↦ λ h f. absurd (cc)
    ] refl e

-- what `strip_prefix` of a slice answers
pub stripped : (q k : Path) (o : Option (Bor Path)) → MatchOption o (path_eq (take (length q) k) q ≡ false) (λ x. (path_eq (take (length q) k) q ≡ true) × (x.now ≡ drop (length q) k) × (length x.now + length q ≡ length k)) → option_copied o ≡ strip q k
stripped q k None h = sym (strip_apart q k h)
stripped q k (Some x) h =
    let fits : length q ≤ length k = omega (arith, h.2) in
    ap Some h.1 ∙ sym (strip_take q k fits h.0)

not_one : (n : ℕ) → (suc (suc n) == 1) ≡ false
not_one n = grind (arith, nat_tests)

one_is : (s : Path) → (length s == 1) ≡ one_label (Some s)
one_is [] = refl
one_is (x ∷ []) = refl
one_is (x ∷ y ∷ s) = not_one (length s)

module _ (o : Option (Bor Path)) where
  -- by the labels that follow
  pub child-by : (x : Bor Path) (q p : Path) → o ≡ Some x → option_copied o ≡ strip q p → (length x.now == 1) ≡ is_child q p
  child-by x q p is e = one_is x.now ∙ ap one_label (sym (ap option_copied is) ∙ e)

  pub child-none : (q p : Path) → o ≡ None → option_copied o ≡ strip q p → false ≡ is_child q p
  child-none q p is e = ap one_label (sym (ap option_copied is) ∙ e)
