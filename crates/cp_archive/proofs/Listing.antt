-- The rows of a version, path by path.
use Rattle.std.specs.Prelude.{ℕ, ◌≡◌, List, [], ◌∷◌, ◌++◌, map, refl}
use Rattle.std.proofs.Common.{sym, ap, ◌∙◌, T}
use Rattle.std.specs.List.{flat_map, filter_map, cons_option, AllByRecursion}
use Rattle.std.specs.List.Sorted.{IsStrictlySortedBy}
use Rattle.std.specs.Map.{keys_of}
use Rattle.std.specs.Global.{Vec}
use Rattle.std.specs.Ordering.{is_lt}
use Rattle.std.specs.Option.{option_map, unwrap_or}
use Rattle.std.specs.declared.option.Option.{Option}
use Rattle.std.specs.declared.option.Option.TheVariants.{None, Some}
use Rattle.std.specs.declared.cmp.Ordering.TheVariants.{Less}
use Rattle.std.specs.FinMap.Entries.{is_sorted, below_all}
use Rattle.cp_model.specs.Place.{Path, path_cmp}
use Rattle.cp_model.specs.Keyed as keyed
use Rattle.cp_model.specs.Keyed.{look}
use Rattle.cp_model.specs.declared.row.Row.{Row}
use Rattle.cp_model.specs.declared.row.Content.{Content}
use Rattle.cp_model.proofs.Sorted.{parts_of, all_of}
use Rattle.cp_tree.specs.Rows.{entry_row}
use Rattle.cp_tree.proofs.BranchLemmas.{entries-from_entries}
use Rattle.cp_archive.specs.declared.phase.Phase.{Phase}
use Rattle.cp_archive.specs.Phases.{Paths, content_at, phases_of, content_of, tree_of_version, row_of}
use Rattle.cp_archive.proofs.Differing.{all-found}
use Rattle.cp_archive.proofs.VersionTrees.{entry_of}

-- the rows of these paths in version t
abbrev pub rows_in : ℕ → List (Path × Vec Phase) → List Row
rows_in t es = flat_map (λ e. row_of e.0 (content_at e.1.items t)) es

module _ {X : Type 0} where
  below-keys : (k : Path) (es : List (Path × X)) → AllByRecursion (λ q. path_cmp k q ≡ Less) (keys_of es) → T (below_all path_cmp k es)
  below-keys k [] h = tt
  below-keys k (e ∷ es) h = all_of (is_lt (path_cmp k e.0)) (below_all path_cmp k es) (by (path_cmp k e.0) h.0) (below-keys k es h.1)
    where
      by : (o : _) → o ≡ Less → T (is_lt o)
      by Less h = tt
      by o h = absurd (cc)

  -- keys that rise are those of entries in order
  pub sorted-keys : (es : List (Path × X)) → IsStrictlySortedBy path_cmp (keys_of es) → T (is_sorted path_cmp es)
  unfolding IsStrictlySortedBy
  sorted-keys [] h = tt
  sorted-keys (e ∷ es) h = all_of (below_all path_cmp e.0 es) (is_sorted path_cmp es) (below-keys e.0 es h.0) (sorted-keys es h.1)

module _ (m : Paths) (t : ℕ) where
  below-left : (k : Path) (es : List (Path × Vec Phase)) → T (below_all path_cmp k es) → T (below_all path_cmp k (filter_map (entry_of m t) es))
  below-left k [] h = tt
  below-left k (e ∷ es) h =
      let parts = parts_of (is_lt (path_cmp k e.0)) (below_all path_cmp k es) h in
      elim (content_of m t e.0) as (λ o. T (below_all path_cmp k (cons_option (option_map (λ c. (e.0, c)) o) (filter_map (entry_of m t) es)))) [
        | None ↦ below-left k es parts.1
        | Some c ↦ all_of (is_lt (path_cmp k e.0)) (below_all path_cmp k (filter_map (entry_of m t) es)) parts.0 (below-left k es parts.1)
      ]

  sorted-left : (es : List (Path × Vec Phase)) → T (is_sorted path_cmp es) → T (is_sorted path_cmp (filter_map (entry_of m t) es))
  sorted-left [] h = tt
  sorted-left (e ∷ es) h =
      let parts = parts_of (below_all path_cmp e.0 es) (is_sorted path_cmp es) h in
      elim (content_of m t e.0) as (λ o. T (is_sorted path_cmp (cons_option (option_map (λ c. (e.0, c)) o) (filter_map (entry_of m t) es)))) [
        | None ↦ sorted-left es parts.1
        | Some c ↦ all_of (below_all path_cmp e.0 (filter_map (entry_of m t) es)) (is_sorted path_cmp (filter_map (entry_of m t) es)) (below-left e.0 es parts.0) (sorted-left es parts.1)
      ]

  -- the phases of a path that is there
  pub phases-found : (p : Path) (v : Vec Phase) → look p m.entries ≡ Some v → v.items ≡ phases_of m p
  unfolding phases_of
  phases-found p v e = ap (λ (o : Option (Vec Phase)). unwrap_or (option_map (λ w. w.items) o) []) (sym e)

  row-of : (p : Path) (o : Option Content) (rest : List (Path × Content)) → map entry_row (cons_option (option_map (λ c. (p, c)) o) rest) ≡ row_of p o ++ map entry_row rest
  row-of p None rest = refl
  row-of p (Some c) rest = refl

  rows-left : (es : List (Path × Vec Phase)) → AllByRecursion (λ e. look e.0 m.entries ≡ Some e.1) es → map entry_row (filter_map (entry_of m t) es) ≡ rows_in t es
  rows-left [] h = refl
  rows-left (e ∷ es) h =
      row-of e.0 (content_of m t e.0) (filter_map (entry_of m t) es)
      ∙ ap (λ xs. row_of e.0 (content_at xs t) ++ map entry_row (filter_map (entry_of m t) es)) (sym (phases-found e.0 e.1 h.0))
      ∙ ap (λ rs. row_of e.0 (content_at e.1.items t) ++ rs) (rows-left es h.1)

  -- the rows of all paths are those of the version's tree
  pub rows-listed : IsStrictlySortedBy path_cmp (keys_of m.entries) → rows_in t m.entries ≡ map entry_row (keyed.entries (tree_of_version m t))
  unfolding tree_of_version
  rows-listed h =
      let s = sorted-keys m.entries h in
      sym (rows-left m.entries (all-found m.entries s)) ∙ ap (map entry_row) (sym (entries-from_entries (filter_map (entry_of m t) m.entries) (sorted-left m.entries s)))
