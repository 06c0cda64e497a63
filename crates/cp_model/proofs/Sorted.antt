-- The order of rows: a subtree's rows rise, and its root comes first.
use Rattle.std.specs.Prelude.{◌≡◌, Bool, true, false, ◌&&◌, List, [], ◌∷◌, ◌++◌, refl}
use Rattle.std.proofs.Common.{ap, subst, ◌∙◌, T}
use Rattle.std.specs.List.{filter_map, cons_option}
use Rattle.std.specs.declared.option.Option.TheVariants.{None, Some}
use Rattle.std.specs.declared.cmp.Ordering.{Ordering}
use Rattle.std.specs.declared.cmp.Ordering.TheVariants.{Less, Equal, Greater}
use Rattle.std.specs.Ordering.{is_lt, ordering_then, ordering_reverse}
use Rattle.std.specs.Cmp.Lexicographic.{nat_list_cmp_total}
use Rattle.std.specs.FinMap.Entries.{is_sorted, below_all}
use Rattle.cp_path.specs.Text.{text_cmp}
use Rattle.cp_model.specs.Place.{Path, path_cmp, strip, option_map}
use Rattle.cp_model.specs.Keyed as keyed
use Rattle.cp_model.specs.Keyed.{look, Keyed}
use Rattle.cp_model.specs.Subtrees.{below, entry_below}
use Rattle.cp_model.proofs.Strips.{strip_is}

own_reverse : (o : Ordering) → o ≡ ordering_reverse o → o ≡ Equal
own_reverse Less e = absurd (cc)
own_reverse Equal e = refl
own_reverse Greater e = absurd (cc)

-- behind the same path, paths are in the order that they have alone
pub path_cmp-append : (q s r : Path) → path_cmp (q ++ s) (q ++ r) ≡ path_cmp s r
path_cmp-append [] s r = refl
path_cmp-append (a ∷ q) s r =
    ap (λ o. ordering_then o (path_cmp (q ++ s) (q ++ r))) (own_reverse (text_cmp a a) (nat_list_cmp_total.antisymm a a)) ∙ path_cmp-append q s r

-- where both hold, each holds
pub parts_of : (a b : Bool) → T (a && b) → T a × T b
parts_of true true h = (tt, tt)
parts_of true false h = absurd h
parts_of false b h = absurd h

-- where each holds, both hold
pub all_of : (a b : Bool) → T a → T b → T (a && b)
all_of true true g h = tt
all_of true false g h = absurd h
all_of false b g h = absurd g

module _ {X : Type 0} where
  below_strip : (q e s : Path) (es : List (Path × X)) → strip q e ≡ Some s → T (below_all path_cmp e es) → T (below_all path_cmp s (filter_map (entry_below q) es))
  below_strip q e s [] k h = tt
  below_strip q e s (f ∷ fs) k h =
      let parts = parts_of (is_lt (path_cmp e f.0)) (below_all path_cmp e fs) h in
      elim (strip q f.0) as (λ o. strip q f.0 ≡ o → T (below_all path_cmp s (cons_option (option_map (λ r. (r, f.1)) o) (filter_map (entry_below q) fs)))) [
        | None ↦ λ _. below_strip q e s fs k parts.1
        | Some r ↦ λ i.
            let same_order : path_cmp e f.0 ≡ path_cmp s r = ap (λ p. path_cmp p f.0) (strip_is q e s k) ∙ ap (path_cmp (q ++ s)) (strip_is q f.0 r i) ∙ path_cmp-append q s r in
            all_of (is_lt (path_cmp s r)) (below_all path_cmp s (filter_map (entry_below q) fs)) (subst (λ o. T (is_lt o)) same_order parts.0) (below_strip q e s fs k parts.1)
      ] refl

  sorted_strip : (q : Path) (es : List (Path × X)) → T (is_sorted path_cmp es) → T (is_sorted path_cmp (filter_map (entry_below q) es))
  sorted_strip q [] h = tt
  sorted_strip q (e ∷ es) h =
      let parts = parts_of (below_all path_cmp e.0 es) (is_sorted path_cmp es) h in
      elim (strip q e.0) as (λ o. strip q e.0 ≡ o → T (is_sorted path_cmp (cons_option (option_map (λ r. (r, e.1)) o) (filter_map (entry_below q) es)))) [
        | None ↦ λ _. sorted_strip q es parts.1
        | Some s ↦ λ k. all_of (below_all path_cmp s (filter_map (entry_below q) es)) (is_sorted path_cmp (filter_map (entry_below q) es)) (below_strip q e.0 s es k parts.0) (sorted_strip q es parts.1)
      ] refl

  -- the entries of a map rise
  pub sorted-entries : (m : Keyed X) → T (is_sorted path_cmp (keyed.entries m))
  unfolding keyed.entries
  sorted-entries m = m.sorted

  -- the rows of a subtree rise
  pub sorted-below : (q : Path) (m : Keyed X) → T (is_sorted path_cmp (below q m))
  unfolding below
  sorted-below q m = sorted_strip q (keyed.entries m) (sorted-entries m)

  -- after a row there is no root
  pub root-first : (k : Path) (es : List (Path × X)) → T (below_all path_cmp k es) → look [] es ≡ None
  root-first k [] h = refl
  root-first k (e ∷ es) h =
      let parts = parts_of (is_lt (path_cmp k e.0)) (below_all path_cmp k es) h in
      passed k e.0 e.1 parts.0 ∙ root-first k es parts.1
    where
      passed : (k r : Path) (x : X) → T (is_lt (path_cmp k r)) → look [] ((r, x) ∷ es) ≡ look [] es
      passed [] [] x l = absurd l
      passed (a ∷ k) [] x l = absurd l
      passed k (b ∷ r) x l = refl
