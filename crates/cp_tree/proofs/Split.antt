-- Edges in order around an edge e.
use Rattle.std.proofs.Common.{◌≡◌, List, [], ◌∷◌, ◌++◌, Some, None, refl, sym, ap, subst, ◌∙◌, true, false, cond, T, Bool, not, ◌&&◌}
use Rattle.std.specs.Ordering.{ordering_reverse, is_lt, eq_by_cmp}
use Rattle.std.specs.declared.cmp.Ordering.{Ordering}
use Rattle.std.specs.declared.cmp.Ordering.TheVariants.{Less, Equal, Greater}
use Rattle.std.specs.FinMap.Entries.{find, put, is_sorted, below_all, by_order, where_key}
use Rattle.cp_path.specs.Text.{text_cmp}
use Rattle.cp_model.specs.Place.{Label}
use Rattle.cp_model.proofs.Sorted.{parts_of, all_of}
use Rattle.cp_tree.proofs.BranchLemmas.{label_total, label_same}
use Rattle.cp_tree.proofs.Rising.{less_is, turned, less_mid, less_all}

module _ {Y : Type 0} where
  below_front : (x : Label) (l m : List (Label × Y)) → T (below_all text_cmp x (l ++ m)) → T (below_all text_cmp x l)
  below_front x [] m h = tt
  below_front x (y ∷ l) m h = all_of _ _ (parts_of _ _ h).0 (below_front x l m (parts_of _ _ h).1)

  below_back : (x : Label) (l m : List (Label × Y)) → T (below_all text_cmp x (l ++ m)) → T (below_all text_cmp x m)
  below_back x [] m h = h
  below_back x (y ∷ l) m h = below_back x l m (parts_of _ _ h).1

  pub sorted_front : (l m : List (Label × Y)) → T (is_sorted text_cmp (l ++ m)) → T (is_sorted text_cmp l)
  sorted_front [] m s = tt
  sorted_front (y ∷ l) m s = all_of _ _ (below_front y.0 l m (parts_of _ _ s).0) (sorted_front l m (parts_of _ _ s).1)

  pub sorted_back : (l m : List (Label × Y)) → T (is_sorted text_cmp (l ++ m)) → T (is_sorted text_cmp m)
  sorted_back [] m s = s
  sorted_back (y ∷ l) m s = sorted_back l m (parts_of _ _ s).1

  none_below : (a : Label) (r : List (Label × Y)) → T (below_all text_cmp a r) → find text_cmp a r ≡ None
  none_below a [] h = refl
  none_below a (y ∷ r) h = rw (less_is (text_cmp a y.0) (parts_of _ _ h).0) (none_below a r (parts_of _ _ h).1)

  all_kept : (a : Label) (r : List (Label × Y)) → T (below_all text_cmp a r) → where_key text_cmp (λ b. not (eq_by_cmp text_cmp a b)) r ≡ r
  all_kept a [] h = refl
  all_kept a (y ∷ r) h = rw (less_is (text_cmp a y.0) (parts_of _ _ h).0) (ap (λ z. y ∷ z) (all_kept a r (parts_of _ _ h).1))

  module _ (a : Label) (e : Label × Y) (r : List (Label × Y)) where
    pub find_left : (l : List (Label × Y)) → T (is_sorted text_cmp (l ++ e ∷ r)) → text_cmp a e.0 ≡ Less → find text_cmp a (l ++ e ∷ r) ≡ find text_cmp a l
    find_left [] s lt = none_below a (e ∷ r) (all_of _ _ (subst (λ o. T (is_lt o)) (sym lt) tt) (less_all text_cmp label_total a e.0 r lt (parts_of _ _ s).0))
    find_left (y ∷ l) s lt = ap (cond (eq_by_cmp text_cmp a y.0) (Some y.1)) (find_left l (parts_of _ _ s).1 lt)

    pub find_right : (l : List (Label × Y)) → T (is_sorted text_cmp (l ++ e ∷ r)) → text_cmp a e.0 ≡ Greater → find text_cmp a (l ++ e ∷ r) ≡ find text_cmp a r
    find_right [] s gt = rw gt refl
    find_right (y ∷ l) s gt =
        let lt : text_cmp y.0 a ≡ Less = label_total.trans y.0 e.0 a (less_mid text_cmp label_total y.0 l e r (parts_of _ _ s).0) (turned text_cmp label_total a e.0 _ gt) in
        rw (turned text_cmp label_total y.0 a _ lt) (find_right l (parts_of _ _ s).1 gt)

    pub find_mid : (l : List (Label × Y)) → T (is_sorted text_cmp (l ++ e ∷ r)) → text_cmp a e.0 ≡ Equal → find text_cmp a (l ++ e ∷ r) ≡ Some e.1
    find_mid [] s eq = rw eq refl
    find_mid (y ∷ l) s eq =
        let lt : text_cmp y.0 a ≡ Less = subst (λ z. text_cmp y.0 z ≡ Less) (sym (label_same a e.0 eq)) (less_mid text_cmp label_total y.0 l e r (parts_of _ _ s).0) in
        rw (turned text_cmp label_total y.0 a _ lt) (find_mid l (parts_of _ _ s).1 eq)

    module _ (n : Y) where
      pub put_left : (l : List (Label × Y)) → text_cmp a e.0 ≡ Less → put text_cmp a n (l ++ e ∷ r) ≡ put text_cmp a n l ++ e ∷ r
      put_left [] lt = rw lt refl
      put_left (y ∷ l) lt = elim (text_cmp a y.0) as (λ o. by_order o ((a, n) ∷ y ∷ (l ++ e ∷ r)) ((y.0, n) ∷ (l ++ e ∷ r)) (y ∷ put text_cmp a n (l ++ e ∷ r)) ≡ by_order o ((a, n) ∷ y ∷ l) ((y.0, n) ∷ l) (y ∷ put text_cmp a n l) ++ e ∷ r) [
        | Less ↦ refl
        | Equal ↦ refl
        | Greater ↦ ap (λ z. y ∷ z) (put_left l lt)
      ]

      pub put_right : (l : List (Label × Y)) → T (is_sorted text_cmp (l ++ e ∷ r)) → text_cmp a e.0 ≡ Greater → put text_cmp a n (l ++ e ∷ r) ≡ l ++ e ∷ put text_cmp a n r
      put_right [] s gt = rw gt refl
      put_right (y ∷ l) s gt =
          let lt : text_cmp y.0 a ≡ Less = label_total.trans y.0 e.0 a (less_mid text_cmp label_total y.0 l e r (parts_of _ _ s).0) (turned text_cmp label_total a e.0 _ gt) in
          rw (turned text_cmp label_total y.0 a _ lt) (ap (λ z. y ∷ z) (put_right l (parts_of _ _ s).1 gt))

      pub put_mid : (l : List (Label × Y)) → T (is_sorted text_cmp (l ++ e ∷ r)) → text_cmp a e.0 ≡ Equal → put text_cmp a n (l ++ e ∷ r) ≡ l ++ (e.0, n) ∷ r
      put_mid [] s eq = rw eq refl
      put_mid (y ∷ l) s eq =
          let lt : text_cmp y.0 a ≡ Less = subst (λ z. text_cmp y.0 z ≡ Less) (sym (label_same a e.0 eq)) (less_mid text_cmp label_total y.0 l e r (parts_of _ _ s).0) in
          rw (turned text_cmp label_total y.0 a _ lt) (ap (λ z. y ∷ z) (put_mid l (parts_of _ _ s).1 eq))

    pub cut_left : (l : List (Label × Y)) → T (is_sorted text_cmp (l ++ e ∷ r)) → text_cmp a e.0 ≡ Less → where_key text_cmp (λ b. not (eq_by_cmp text_cmp a b)) (l ++ e ∷ r) ≡ where_key text_cmp (λ b. not (eq_by_cmp text_cmp a b)) l ++ e ∷ r
    cut_left [] s lt = rw lt (ap (λ z. e ∷ z) (all_kept a r (less_all text_cmp label_total a e.0 r lt (parts_of _ _ s).0)))
    cut_left (y ∷ l) s lt =
        let rest = cut_left l (parts_of _ _ s).1 lt in
        elim (eq_by_cmp text_cmp a y.0) as (λ t. cond (not t) (y ∷ where_key text_cmp (λ b. not (eq_by_cmp text_cmp a b)) (l ++ e ∷ r)) (where_key text_cmp (λ b. not (eq_by_cmp text_cmp a b)) (l ++ e ∷ r)) ≡ cond (not t) (y ∷ where_key text_cmp (λ b. not (eq_by_cmp text_cmp a b)) l) (where_key text_cmp (λ b. not (eq_by_cmp text_cmp a b)) l) ++ e ∷ r) [
          | true ↦ rest
          | false ↦ ap (λ z. y ∷ z) rest
        ]

    pub cut_right : (l : List (Label × Y)) → T (is_sorted text_cmp (l ++ e ∷ r)) → text_cmp a e.0 ≡ Greater → where_key text_cmp (λ b. not (eq_by_cmp text_cmp a b)) (l ++ e ∷ r) ≡ l ++ e ∷ where_key text_cmp (λ b. not (eq_by_cmp text_cmp a b)) r
    cut_right [] s gt = rw gt refl
    cut_right (y ∷ l) s gt =
        let lt : text_cmp y.0 a ≡ Less = label_total.trans y.0 e.0 a (less_mid text_cmp label_total y.0 l e r (parts_of _ _ s).0) (turned text_cmp label_total a e.0 _ gt) in
        rw (turned text_cmp label_total y.0 a _ lt) (ap (λ z. y ∷ z) (cut_right l (parts_of _ _ s).1 gt))

    pub cut_mid : (l : List (Label × Y)) → T (is_sorted text_cmp (l ++ e ∷ r)) → text_cmp a e.0 ≡ Equal → where_key text_cmp (λ b. not (eq_by_cmp text_cmp a b)) (l ++ e ∷ r) ≡ l ++ r
    cut_mid [] s eq = rw eq (all_kept a r (subst (λ z. T (below_all text_cmp z r)) (sym (label_same a e.0 eq)) (parts_of _ _ s).0))
    cut_mid (y ∷ l) s eq =
        let lt : text_cmp y.0 a ≡ Less = subst (λ z. text_cmp y.0 z ≡ Less) (sym (label_same a e.0 eq)) (less_mid text_cmp label_total y.0 l e r (parts_of _ _ s).0) in
        rw (turned text_cmp label_total y.0 a _ lt) (ap (λ z. y ∷ z) (cut_mid l (parts_of _ _ s).1 eq))
