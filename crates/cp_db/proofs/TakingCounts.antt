-- A tree whose places carry more than their contents has as many places as the tree of its contents.
use Rattle.std.specs.Prelude.{◌≡◌, ◌&&◌, suc, List, [], ◌∷◌, length, refl}
use Rattle.std.proofs.Common.{sym, ap, subst, ◌∙◌, T}
use Rattle.std.specs.FinMap.Entries.{is_sorted, below_all}
use Rattle.std.specs.Ordering.{is_lt}
use Rattle.cp_model.specs.Place.{Path, path_cmp}
use Rattle.cp_model.specs.Keyed.{Keyed, entries, len}
use Rattle.cp_model.specs.Subtrees.{with_values, map_values}
use Rattle.cp_model.proofs.Sorted.{sorted-entries}
use Rattle.cp_tree.proofs.BranchLemmas.{entries-from_entries}

module _ {X Y : Type 0} (f : Path → X → Y) where
  below-values : (k : Path) (es : List (Path × X)) → below_all path_cmp k (with_values f es) ≡ below_all path_cmp k es
  below-values k [] = refl
  below-values k (e ∷ es) = ap (λ b. is_lt (path_cmp k e.0) && b) (below-values k es)

  sorted-values : (es : List (Path × X)) → is_sorted path_cmp (with_values f es) ≡ is_sorted path_cmp es
  sorted-values [] = refl
  sorted-values (e ∷ es) = ap (λ b. b && is_sorted path_cmp (with_values f es)) (below-values e.0 es) ∙ ap (λ b. below_all path_cmp e.0 es && b) (sorted-values es)

  length-values : (es : List (Path × X)) → length (with_values f es) ≡ length es
  length-values [] = refl
  length-values (e ∷ es) = ap (λ n. suc n) (length-values es)

  pub len-mapped : (m : Keyed X) → len (map_values f m) ≡ len m
  unfolding entries len
  len-mapped m = ap length (entries-from_entries (with_values f (entries m)) (subst T (sym (sorted-values (entries m))) (sorted-entries m))) ∙ length-values (entries m)
