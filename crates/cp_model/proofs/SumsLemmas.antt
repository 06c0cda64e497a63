-- Sums over a tree, as its number of places and its weight, after a subtree is replaced.
use Rattle.std.specs.Prelude.{ℕ, ◌+◌, ◌≡◌, Bool, true, false, cond, not, ◌&&◌, List, [], ◌∷◌, ◌++◌, length, sum_by, is_some, refl}
use Rattle.std.proofs.Common.{sym, ap, ◌∙◌, T, arith, append_assoc}
use Rattle.std.specs.List.{filter, filter_map, cons_option}
use Rattle.std.specs.declared.option.Option.{Option}
use Rattle.std.specs.declared.option.Option.TheVariants.{None, Some}
use Rattle.std.specs.declared.cmp.Ordering.{Ordering}
use Rattle.std.specs.declared.cmp.Ordering.TheVariants.{Less, Equal, Greater}
use Rattle.std.specs.Ordering.{is_eq, is_lt}
use Rattle.std.specs.FinMap.Entries.{find, put, by_order, is_sorted, below_all, length-put}
use Rattle.std.proofs.lemmas.List.Sums.{sum_by-cons}
use Rattle.std.proofs.lemmas.List.Filters.{sum_by-filter_both}
use Rattle.cp_model.specs.Place.{Path, Label, path_cmp, path_eq, starts_with, strip, option_map, or_else, child}
use Rattle.cp_path.specs.PathOrder.{path_total, path_ties, path_eq_equiv}
use Rattle.cp_model.proofs.KeyedLemmas.{get-put_all, look-find}
use Rattle.cp_model.specs.Keyed as keyed
use Rattle.cp_model.specs.Keyed.{look, Keyed}
use Rattle.cp_model.specs.Closed.{Closed}
use Rattle.cp_model.specs.Subtrees.{below, entries_under, without, with_subtree, entry_below, is_there}
use Rattle.cp_model.specs.Tree.{Tree, weight, weight_of, last_bytes}
use Rattle.cp_model.proofs.Strips.{strip_is, strip-append, append-nil, path_ind}
use Rattle.cp_model.specs.Laws.{at_rest_or}
use Rattle.cp_model.proofs.Lookups.{starts_with-strip, find-moved, find-below, get-without}
use Rattle.cp_model.specs.declared.row.Content.{Content}
use Rattle.cp_model.specs.Sums.{total}

-- what stood nowhere adds to the sum when it is put
pub sum_by-put : {X : Type 0} (f : Path × X → ℕ) (k : Path) (v : X) (es : List (Path × X)) → find path_cmp k es ≡ None → sum_by f (put path_cmp k v es) ≡ sum_by f es + f (k, v)
sum_by-put f k v [] h = refl
sum_by-put f k v (e ∷ es) h =
    elim (path_cmp k e.0) as (λ r. path_cmp k e.0 ≡ r → cond (is_eq r) (Some e.1) (find path_cmp k es) ≡ None → sum_by f (by_order r ((k, v) ∷ e ∷ es) ((e.0, v) ∷ es) (e ∷ put path_cmp k v es)) ≡ sum_by f (e ∷ es) + f (k, v)) [
      | Less ↦ λ _ _. sum_by-cons f (k, v) (e ∷ es) ∙ omega arith
      | Equal ↦ λ _ h. absurd (cc)
      | Greater ↦ λ _ h. sum_by-cons f e (put path_cmp k v es) ∙ ap (λ n. f e + n) (sum_by-put f k v es h) ∙ omega (arith, sum_by-cons f e es)
    ] refl h

-- a new place makes the number of places greater by one
pub len_insert_new : {X : Type 0} (m : Keyed X) (k : Path) (v : X) → keyed.get m k ≡ None → keyed.len (keyed.insert m k v) ≡ keyed.len m + 1
unfolding keyed.len keyed.insert keyed.get
len_insert_new m k v h = length-put path_cmp path_total k v m.list m.sorted ∙ ap (λ o. cond (is_some o) (length m.list) (length m.list + 1)) (sym (look-find k m.list) ∙ h)

-- a new place adds its weight
pub weight_insert_new : (t : Tree) (k : Path) (c : Content) → keyed.get t k ≡ None → weight (keyed.insert t k c) ≡ weight t + weight_of (k, c)
unfolding weight keyed.insert keyed.get keyed.entries
weight_insert_new t k c h = sum_by-put weight_of k c t.list (sym (look-find k t.list) ∙ h)

-- the last label of a child is its label
pub last_bytes_child : (p : Path) (a : Label) → last_bytes (child p a) ≡ length a
last_bytes_child [] a = refl
last_bytes_child (b ∷ []) a = refl
last_bytes_child (b ∷ c ∷ p) a = last_bytes_child (c ∷ p) a

and_so : (a b : Bool) → T (a && b) → T a × T b
and_so true true h = (tt, tt)
and_so true false h = absurd h
and_so false b h = absurd h

less_no : (r : Ordering) → T (is_lt r) → is_eq r ≡ false
less_no Less h = refl
less_no Equal h = absurd h
less_no Greater h = absurd h

module _ {X : Type 0} where
  none_below : (x : Path) (es : List (Path × X)) → T (below_all path_cmp x es) → look x es ≡ None
  none_below x [] h = refl
  none_below x (e ∷ es) h =
      let parts = and_so (is_lt (path_cmp x e.0)) (below_all path_cmp x es) h in
      ap (λ b. cond b (Some e.1) (look x es)) (path_ties x e.0 ∙ less_no (path_cmp x e.0) parts.0) ∙ none_below x es parts.1

  fresh : (p : Path) (e : Path × X) (es : List (Path × X)) (m : Keyed X) → T (below_all path_cmp e.0 es) → keyed.get (keyed.put_all (entries_under p es) (without p m)) (p ++ e.0) ≡ None
  fresh p e es m h =
      get-put_all (entries_under p es) (without p m) (p ++ e.0)
      ∙ ap (λ o. or_else o (keyed.get (without p m) (p ++ e.0))) (find-moved p (p ++ e.0) es ∙ ap (λ o. at_rest_or o (λ s. look s es) None) (strip-append p e.0) ∙ none_below e.0 es h)
      ∙ get-without p m (p ++ e.0) ∙ ap (λ o. at_rest_or o (λ _. None) (keyed.get m (p ++ e.0))) (strip-append p e.0)

module _ {X : Type 0} (f : Path × X → ℕ) where
  total-insert_new : (m : Keyed X) (k : Path) (v : X) → keyed.get m k ≡ None → total f (keyed.insert m k v) ≡ total f m + f (k, v)
  unfolding keyed.insert keyed.entries keyed.get
  total-insert_new m k v h = sum_by-put f k v m.list (sym (look-find k m.list) ∙ h)

  sum_below : (p : Path) (es : List (Path × X)) → sum_by f (filter (λ e. starts_with e.0 p) es) ≡ sum_by (λ e. f (p ++ e.0, e.1)) (filter_map (entry_below p) es)
  sum_below p [] = refl
  sum_below p (e ∷ es) =
      ap (λ b. sum_by f (cond b (e ∷ filter (λ e. starts_with e.0 p) es) (filter (λ e. starts_with e.0 p) es))) (starts_with-strip e.0 p)
      ∙ elim (strip p e.0) as (λ o. strip p e.0 ≡ o → sum_by f (cond (is_some o) (e ∷ filter (λ e. starts_with e.0 p) es) (filter (λ e. starts_with e.0 p) es)) ≡ sum_by (λ e. f (p ++ e.0, e.1)) (cons_option (option_map (λ s. (s, e.1)) o) (filter_map (entry_below p) es))) [
        | None ↦ λ k. sum_below p es
        | Some s ↦ λ k. sum_by-cons f e (filter (λ e. starts_with e.0 p) es)
            ∙ ap (λ n. f e + n) (sum_below p es)
            ∙ ap (λ r. f (r, e.1) + sum_by (λ e. f (p ++ e.0, e.1)) (filter_map (entry_below p) es)) (strip_is p e.0 s k)
            ∙ sym (sum_by-cons (λ e. f (p ++ e.0, e.1)) (s, e.1) (filter_map (entry_below p) es))
      ] refl

  total-put_all : (p : Path) (es : List (Path × X)) (m : Keyed X) → T (is_sorted path_cmp es) → total f (keyed.put_all (entries_under p es) (without p m)) ≡ sum_by f (entries_under p es) + total f (without p m)
  unfolding entries_under keyed.put_all
  total-put_all p [] m h = omega arith
  total-put_all p (e ∷ es) m h =
      let parts = and_so (below_all path_cmp e.0 es) (is_sorted path_cmp es) h in
      total-insert_new (keyed.put_all (entries_under p es) (without p m)) (p ++ e.0) e.1 (fresh p e es m parts.0)
      ∙ omega (arith, total-put_all p es m parts.1, sum_by-cons f (p ++ e.0, e.1) (entries_under p es))

  -- the sum splits into what is at or below p and the rest
  pub total-without : (p : Path) (m : Keyed X) → total f (without p m) + sum_by (λ e. f (p ++ e.0, e.1)) (below p m) ≡ total f m
  unfolding without below keyed.retain_keys keyed.entries
  total-without p m =
      let split = sum_by-filter_both (λ e. starts_with e.0 p) (λ e. not (starts_with e.0 p)) (λ e. refl) f m.list in
      omega (arith, split, sum_below p m.list)

  -- what is put in place of a subtree counts in its place
  pub total-replaced : (p : Path) (es : List (Path × X)) (m : Keyed X) → T (is_sorted path_cmp es) →
      total f (with_subtree p es m) + sum_by (λ e. f (p ++ e.0, e.1)) (below p m) ≡ total f m + sum_by f (entries_under p es)
  unfolding with_subtree
  total-replaced p es m h = omega (arith, total-put_all p es m h, total-without p m)

  -- the sum over entries behind p
  pub sum_by-moved : (p : Path) (es : List (Path × X)) → sum_by f (entries_under p es) ≡ sum_by (λ e. f (p ++ e.0, e.1)) es
  unfolding entries_under
  sum_by-moved p [] = refl
  sum_by-moved p (e ∷ es) = sum_by-cons f (p ++ e.0, e.1) (entries_under p es) ∙ ap (λ n. f (p ++ e.0, e.1) + n) (sum_by-moved p es) ∙ sym (sum_by-cons (λ e. f (p ++ e.0, e.1)) e es)

-- counting one for each entry gives their number
pub sum_by-one : {A : Type 0} (xs : List A) → sum_by (λ _. 1) xs ≡ length xs
sum_by-one [] = refl
sum_by-one (x ∷ xs) = sum_by-cons (λ _. 1) x xs ∙ omega (arith, sum_by-one xs)

module _ {X : Type 0} where
  one_each : (m : Keyed X) → total (λ _. 1) m ≡ keyed.len m
  unfolding keyed.entries keyed.len
  one_each m = sum_by-one m.list

  -- as many places as before, less those at and below p, and the new ones
  pub len-replaced : (p : Path) (es : List (Path × X)) (m : Keyed X) → T (is_sorted path_cmp es) → keyed.len (with_subtree p es m) + length (below p m) ≡ keyed.len m + length es
  len-replaced p es m h =
      omega (arith, total-replaced (λ _. 1) p es m h, one_each (with_subtree p es m), one_each m, sum_by-one (below p m), sum_by-moved (λ _. 1) p es, sum_by-one es)

  -- as many places as before, less those at and below p
  pub len-without : (p : Path) (m : Keyed X) → keyed.len (without p m) + length (below p m) ≡ keyed.len m
  len-without p m = omega (arith, total-without (λ _. 1) p m, one_each (without p m), one_each m, sum_by-one (below p m))

  all_none : (es : List (Path × X)) → ((s : Path) → look s es ≡ None) → es ≡ []
  all_none [] h = refl
  all_none (e ∷ es) h =
      let k : cond (path_eq e.0 e.0) (Some e.1) (look e.0 es) ≡ Some e.1 = ap (λ b. cond b (Some e.1) (look e.0 es)) (path_eq_equiv.refl e.0) in
      let n = h e.0 in
      absurd (cc)

  -- below a place that isn't there is nothing
  pub below-none : (m : Keyed X) (p : Path) → Closed (keyed.get m) → keyed.get m p ≡ None → below p m ≡ []
  below-none m p c n = all_none (below p m) (λ s. find-below p s m ∙ none s)
    where
      none_is : (o : Option X) → is_some o ≡ false → o ≡ None
      none_is None h = refl
      none_is (Some x) h = absurd (cc)

      not_true : (b : Bool) → (b ≡ true → true ≡ false) → b ≡ false
      not_true true h = h refl
      not_true false h = refl

      none : (s : Path) → keyed.get m (p ++ s) ≡ None
      none s = none_is (keyed.get m (p ++ s)) (path_ind (λ s. is_there m (p ++ s) ≡ false) (ap (is_there m) (append-nil p) ∙ ap is_some n)
          (λ r a h. not_true (is_there m (p ++ (r ++ a ∷ []))) (λ t. sym (c.parents (p ++ r) a (ap (is_there m) (append_assoc p r (a ∷ [])) ∙ t)) ∙ h)) s)

  -- at a place that wasn't there the new places are all added
  pub len-replaced_new : (p : Path) (es : List (Path × X)) (m : Keyed X) → T (is_sorted path_cmp es) → Closed (keyed.get m) → keyed.get m p ≡ None → keyed.len (with_subtree p es m) ≡ keyed.len m + length es
  len-replaced_new p es m h c n = omega (arith, len-replaced p es m h, ap length (below-none m p c n))

-- the weight as before, less that of what was at and below p, and the new weight
pub weight-replaced : (p : Path) (es : List (Path × Content)) (t : Tree) → T (is_sorted path_cmp es) → weight (with_subtree p es t) + sum_by (λ e. weight_of (p ++ e.0, e.1)) (below p t) ≡ weight t + sum_by weight_of (entries_under p es)
unfolding weight
weight-replaced p es t h = total-replaced weight_of p es t h

-- the weight as before, less that of what was at and below p
pub weight-without : (p : Path) (t : Tree) → weight (without p t) + sum_by (λ e. weight_of (p ++ e.0, e.1)) (below p t) ≡ weight t
unfolding weight
weight-without p t = total-without weight_of p t

-- at a place that wasn't there the new weight is added
pub weight-replaced_new : (p : Path) (es : List (Path × Content)) (t : Tree) → T (is_sorted path_cmp es) → Closed (keyed.get t) → keyed.get t p ≡ None → weight (with_subtree p es t) ≡ weight t + sum_by weight_of (entries_under p es)
weight-replaced_new p es t h c n = omega (arith, weight-replaced p es t h, ap (sum_by (λ e. weight_of (p ++ e.0, e.1))) (below-none t p c n))
