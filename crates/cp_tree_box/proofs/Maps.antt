-- What a map by labels does to its entries, as edges below a node.
use Rattle.std.specs.Prelude.{◌≡◌, true, false, cond, not, List, [], ◌∷◌, length, refl}
use Rattle.std.proofs.Common.{sym, ap, subst, ◌∙◌, T, arith}
use Rattle.std.specs.declared.option.Option.{Option}
use Rattle.std.specs.declared.option.Option.TheVariants.{Some}
use Rattle.std.specs.declared.cmp.Ordering.{Ordering}
use Rattle.std.specs.declared.cmp.Ordering.TheVariants.{Less, Equal, Greater}
use Rattle.std.specs.Ordering.{eq_by_cmp, is_eq, is_lt, match_ordering}
use Rattle.std.specs.FinMap.Entries.{find, put, by_order, where_key, is_sorted, below_all}
use Rattle.std.specs.Map.{lookup, set_value, remove_entry}
use Rattle.std.specs.BTreeMap.{is_at, insert_entry}
use Rattle.cp_tree.proofs.Rising.{less_is}
use Rattle.cp_path.specs.Text.{text_cmp}
use Rattle.cp_model.specs.Place.{Label}
use Rattle.cp_model.proofs.Sorted.{parts_of}
use Rattle.cp_tree.proofs.BranchLemmas.{label_total, label_same}

same_order : {A : Type 0} (o : Ordering) (a b c d : A) → c ≡ d → match_ordering o a b c ≡ by_order o a b d
same_order Less a b c d e = refl
same_order Equal a b c d e = refl
same_order Greater a b c d e = e

module _ {X : Type 0} where
  -- a look-up is a search among edges
  pub lookup-find : (a : Label) (es : List (Label × X)) → lookup (is_at (text_cmp a)) es ≡ find text_cmp a es
  lookup-find a [] = refl
  lookup-find a (e ∷ es) = ap (cond (is_eq (text_cmp a e.0)) (Some e.1)) (lookup-find a es)

  -- what a look-up answers
  pub looked : (a : Label) (es : List (Label × X)) (o : Option X) → o ≡ lookup (is_at (text_cmp a)) es → find text_cmp a es ≡ o
  looked a es o e = sym (lookup-find a es) ∙ sym e

  -- an insertion puts an edge
  pub insert-put : (a : Label) (x : X) (es : List (Label × X)) → insert_entry text_cmp es a x ≡ put text_cmp a x es
  insert-put a x [] = refl
  insert-put a x (e ∷ es) = same_order (text_cmp a e.0) ((a, x) ∷ e ∷ es) ((e.0, x) ∷ es) (e ∷ insert_entry text_cmp es a x) (e ∷ put text_cmp a x es) (ap (λ z. e ∷ z) (insert-put a x es))

  found_above : (a b : Label) (y : X) (es : List (Label × X)) → text_cmp a b ≡ Less → T (below_all text_cmp b es) → find text_cmp a es ≡ Some y → {A : Type 0} → A
  found_above a b y [] l s f = absurd (cc)
  found_above a b y (e ∷ es) l s f =
      let p = parts_of (is_lt (text_cmp b e.0)) (below_all text_cmp b es) s in
      let less : text_cmp a e.0 ≡ Less = label_total.trans a b e.0 l (less_is (text_cmp b e.0) p.0) in
      found_above a b y es l p.1 (sym (ap (λ o. cond (is_eq o) (Some e.1) (find text_cmp a es)) less) ∙ f)

  -- a value written over an edge that is there puts it
  pub set-put : (a : Label) (x y : X) (es : List (Label × X)) → T (is_sorted text_cmp es) → find text_cmp a es ≡ Some y → set_value (is_at (text_cmp a)) es x ≡ put text_cmp a x es
  set-put a x y [] s f = absurd (cc)
  set-put a x y (e ∷ es) s f =
      let p = parts_of (below_all text_cmp e.0 es) (is_sorted text_cmp es) s in
      elim (text_cmp a e.0) as (λ o. text_cmp a e.0 ≡ o → cond (is_eq o) (Some e.1) (find text_cmp a es) ≡ Some y → cond (is_eq o) ((e.0, x) ∷ es) (e ∷ set_value (is_at (text_cmp a)) es x) ≡ by_order o ((a, x) ∷ e ∷ es) ((e.0, x) ∷ es) (e ∷ put text_cmp a x es)) [
        | Less ↦ λ l g. found_above a e.0 y es l p.0 g
        | Equal ↦ λ _ _. refl
        | Greater ↦ λ _ g. ap (λ z. e ∷ z) (set-put a x y es p.1 g)
      ] refl f

  none_above : (a : Label) (es : List (Label × X)) → T (below_all text_cmp a es) → where_key text_cmp (λ b. not (eq_by_cmp text_cmp a b)) es ≡ es
  none_above a [] s = refl
  none_above a (e ∷ es) s =
      let p = parts_of (is_lt (text_cmp a e.0)) (below_all text_cmp a es) s in
      elim (text_cmp a e.0) as (λ o. T (is_lt o) → cond (not (is_eq o)) (e ∷ where_key text_cmp (λ b. not (eq_by_cmp text_cmp a b)) es) (where_key text_cmp (λ b. not (eq_by_cmp text_cmp a b)) es) ≡ e ∷ es) [
        | Less ↦ λ _. ap (λ z. e ∷ z) (none_above a es p.1)
        | Equal ↦ λ h. absurd h
        | Greater ↦ λ h. absurd h
      ] p.0

  -- a removal drops an edge
  pub remove-without : (a : Label) (es : List (Label × X)) → T (is_sorted text_cmp es) → remove_entry (is_at (text_cmp a)) es ≡ where_key text_cmp (λ b. not (eq_by_cmp text_cmp a b)) es
  remove-without a [] s = refl
  remove-without a (e ∷ es) s =
      let p = parts_of (below_all text_cmp e.0 es) (is_sorted text_cmp es) s in
      elim (text_cmp a e.0) as (λ o. text_cmp a e.0 ≡ o → cond (is_eq o) es (e ∷ remove_entry (is_at (text_cmp a)) es) ≡ cond (not (is_eq o)) (e ∷ where_key text_cmp (λ b. not (eq_by_cmp text_cmp a b)) es) (where_key text_cmp (λ b. not (eq_by_cmp text_cmp a b)) es)) [
        | Less ↦ λ _. ap (λ z. e ∷ z) (remove-without a es p.1)
        | Equal ↦ λ t. sym (none_above a es (subst (λ b. T (below_all text_cmp b es)) (sym (label_same a e.0 t)) p.0))
        | Greater ↦ λ _. ap (λ z. e ∷ z) (remove-without a es p.1)
      ] refl

  -- a value written over an edge that is there, as a new list of edges
  pub written : (a : Label) (x y : X) (es fs : List (Label × X)) → T (is_sorted text_cmp es) → find text_cmp a es ≡ Some y → fs ≡ set_value (is_at (text_cmp a)) es x → put text_cmp a x es ≡ fs
  written a x y es fs s f e = sym (set-put a x y es s f) ∙ sym e

  -- where the value that is written is the old one, nothing changes
  pub rewritten : (a : Label) (x y : X) (es fs : List (Label × X)) → T (is_sorted text_cmp es) → find text_cmp a es ≡ Some y → fs ≡ set_value (is_at (text_cmp a)) es x → x ≡ y → fs ≡ es
  rewritten a x y es fs s f e is = e ∙ unchanged es f
    where
      unchanged : (zs : List (Label × X)) → find text_cmp a zs ≡ Some y → set_value (is_at (text_cmp a)) zs x ≡ zs
      unchanged [] f = refl
      unchanged (z ∷ zs) f = elim (is_eq (text_cmp a z.0)) as (λ b. cond b (Some z.1) (find text_cmp a zs) ≡ Some y → cond b ((z.0, x) ∷ zs) (z ∷ set_value (is_at (text_cmp a)) zs x) ≡ z ∷ zs) [
        | true ↦ λ h. (let v : z.1 ≡ y = cc in λ i. (z.0, (is ∙ sym v) i) ∷ zs)
        | false ↦ λ h. ap (λ r. z ∷ r) (unchanged zs h)
      ] f

-- a list without length is empty
pub no_length : {X : Type 0} (xs : List X) → length xs ≡ 0 → xs ≡ []
no_length [] e = refl
no_length (x ∷ xs) e = absurd (omega arith)
