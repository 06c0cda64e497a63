-- Rows in a map by place: how they are found, and that they rise.
use Rattle.std.specs.Prelude.{ℕ, ◌≡◌, true, cond, List, [], ◌∷◌, ◌++◌, map, refl}
use Rattle.std.proofs.Common.{sym, ap, subst, ◌∙◌, T, append_assoc}
use Rattle.std.specs.declared.option.Option.{Option}
use Rattle.std.specs.declared.option.Option.TheVariants.{None, Some}
use Rattle.std.specs.declared.cmp.Ordering.TheVariants.{Less}
use Rattle.std.specs.Ordering.{is_lt}
use Rattle.std.specs.BTreeMap.{is_at}
use Rattle.std.specs.Map.{lookup, keys_of}
use Rattle.std.specs.List.{AllByRecursion, cons_option}
use Rattle.std.specs.List.Sorted.{IsStrictlySortedBy}
use Rattle.std.specs.FinMap.Entries.{is_sorted, below_all, same_entries}
use Rattle.cp_path.proofs.Same.{path_same}
use Rattle.cp_path.specs.PathOrder.{path_total, path_ties}
use Rattle.cp_model.specs.declared.record.Record.{Record}
use Rattle.cp_model.specs.declared.record.RowMark.{RowMark as Mark}
use Rattle.cp_model.specs.Place.{Path, path_cmp, path_eq, option_map}
use Rattle.cp_model.specs.Keyed as keyed
use Rattle.cp_model.specs.Keyed.{look}
use Rattle.cp_model.specs.Subtrees.{with_values, map_values}
use Rattle.cp_model.specs.Tree.{Tree}
use Rattle.cp_model.specs.Step.{Working}
use Rattle.cp_model.specs.Rows.{full_here, reduced_here, rows_with_marks, all_paths, full_rows, reduced_rows}
use Rattle.cp_model.specs.History.{record_of, rows_of, with_tid}
use Rattle.cp_model.specs.declared.kind.Kind.{Kind}
use Rattle.cp_model.specs.declared.kind.Kind.TheVariants as kind
use Rattle.cp_model.proofs.KeyedLemmas.{look-find}
use Rattle.cp_model.proofs.Lookups.{path_eq-sym}
use Rattle.cp_model.proofs.Sorted.{parts_of, all_of, sorted-entries}

module _ {X : Type 0} where
  -- the map's look-up is that by the first entry
  lookup-look : (q : Path) (es : List (Path × X)) → lookup (is_at (path_cmp q)) es ≡ look q es
  lookup-look q [] = refl
  lookup-look q (e ∷ es) = ap (λ b. cond b (Some e.1) (lookup (is_at (path_cmp q)) es)) (sym (path_ties q e.0)) ∙ ap (cond (path_eq q e.0) (Some e.1)) (lookup-look q es)

  -- what an insertion leaves at a place
  pub look-inserted : (r k : Path) (v : X) (es fs : List (Path × X)) → lookup (is_at (path_cmp r)) fs ≡ cond (is_at (path_cmp k) r) (Some v) (lookup (is_at (path_cmp r)) es) → look r fs ≡ cond (path_eq r k) (Some v) (look r es)
  look-inserted r k v es fs h =
      sym (lookup-look r fs) ∙ h
      ∙ ap (λ b. cond b (Some v) (lookup (is_at (path_cmp r)) es)) (sym (path_ties k r) ∙ path_eq-sym k r)
      ∙ ap (cond (path_eq r k) (Some v)) (lookup-look r es)

  -- a key below all keys is below all entries
  below-keys : (k : Path) (es : List (Path × X)) → AllByRecursion (λ q. path_cmp k q ≡ Less) (keys_of es) → T (below_all path_cmp k es)
  below-keys k [] h = tt
  below-keys k (e ∷ es) h = all_of (is_lt (path_cmp k e.0)) (below_all path_cmp k es) (subst (λ o. T (is_lt o)) (sym h.0) tt) (below-keys k es h.1)

  -- entries whose keys rise are sorted
  pub sorted-keys : (es : List (Path × X)) → IsStrictlySortedBy path_cmp (keys_of es) → T (is_sorted path_cmp es)
  unfolding IsStrictlySortedBy
  sorted-keys [] h = tt
  sorted-keys (e ∷ es) h = all_of (below_all path_cmp e.0 es) (is_sorted path_cmp es) (below-keys e.0 es h.0) (sorted-keys es h.1)

  -- marks of paths that are above k are above it
  below_marked : (f : Path → Option Mark) (k : Path) (es : List (Path × X)) → T (below_all path_cmp k es) → T (below_all path_cmp k (rows_with_marks f (map (λ e. e.0) es)))
  below_marked f k [] h = tt
  below_marked f k (e ∷ es) h =
      let parts = parts_of (is_lt (path_cmp k e.0)) (below_all path_cmp k es) h in
      let rest = below_marked f k es parts.1 in
      elim (f e.0) as (λ o. T (below_all path_cmp k (cons_option (option_map (λ m. (e.0, m)) o) (rows_with_marks f (map (λ e. e.0) es))))) [
        | None ↦ rest
        | Some m ↦ all_of (is_lt (path_cmp k e.0)) (below_all path_cmp k (rows_with_marks f (map (λ e. e.0) es))) parts.0 rest
      ]

  -- marks of paths that rise, rise
  sorted_marked : (f : Path → Option Mark) (es : List (Path × X)) → T (is_sorted path_cmp es) → T (is_sorted path_cmp (rows_with_marks f (map (λ e. e.0) es)))
  sorted_marked f [] h = tt
  sorted_marked f (e ∷ es) h =
      let parts = parts_of (below_all path_cmp e.0 es) (is_sorted path_cmp es) h in
      let rest = sorted_marked f es parts.1 in
      elim (f e.0) as (λ o. T (is_sorted path_cmp (cons_option (option_map (λ m. (e.0, m)) o) (rows_with_marks f (map (λ e. e.0) es))))) [
        | None ↦ rest
        | Some m ↦ all_of (below_all path_cmp e.0 (rows_with_marks f (map (λ e. e.0) es))) (is_sorted path_cmp (rows_with_marks f (map (λ e. e.0) es))) (below_marked f e.0 es parts.0) rest
      ]

-- the full rows of a step rise
pub sorted-full_rows : (a : Tree) (w : Working) → T (is_sorted path_cmp (full_rows a w))
unfolding all_paths
sorted-full_rows a w = sorted_marked (full_here a w) (keyed.entries (keyed.put_all (with_values (λ _ _. true) (keyed.entries w)) (map_values (λ _ _. true) a))) (sorted-entries _)

-- the reduced rows of a step rise
pub sorted-reduced_rows : (a : Tree) (w : Working) → T (is_sorted path_cmp (reduced_rows a w))
unfolding all_paths
sorted-reduced_rows a w = sorted_marked (reduced_here a w) (keyed.entries (keyed.put_all (with_values (λ _ _. true) (keyed.entries w)) (map_values (λ _ _. true) a))) (sorted-entries _)

-- the rows that a kind keeps of a step rise
pub sorted-rows_of : (k : Kind) (a : Tree) (w : Working) → T (is_sorted path_cmp (rows_of k a w))
sorted-rows_of kind.N a w = sorted-full_rows a w
sorted-rows_of kind.T a w = sorted-full_rows a w
sorted-rows_of kind.H a w = sorted-reduced_rows a w
sorted-rows_of kind.HT a w = sorted-reduced_rows a w

-- rows that rise and answer alike are the same
pub same_rows : {X : Type 0} (es fs : List (Path × X)) → T (is_sorted path_cmp es) → T (is_sorted path_cmp fs) → ((r : Path) → look r es ≡ look r fs) → es ≡ fs
same_rows es fs g h is = same_entries path_cmp path_total path_same es fs g h (λ r. sym (look-find r es) ∙ is r ∙ look-find r fs)

-- the record of the first row is the next
pub record-next : (t : ℕ) (rs qs all : List Record) (p : Path) (m : Mark) (es fs : List (Path × Mark)) → es ≡ (p, m) ∷ fs → qs ≡ rs ++ record_of t p m ∷ [] → rs ++ with_tid t es ≡ all → qs ++ with_tid t fs ≡ all
record-next t rs qs all p m es fs e q h =
    ap (λ xs. xs ++ with_tid t fs) q ∙ append_assoc rs (record_of t p m ∷ []) (with_tid t fs) ∙ ap (λ xs. rs ++ with_tid t xs) (sym e) ∙ h

-- with no row left all records are there
pub records-end : (t : ℕ) (rs all : List Record) (es : List (Path × Mark)) → es ≡ [] → rs ++ with_tid t es ≡ all → rs ≡ all
records-end t rs all es e h = sym (nil rs) ∙ ap (λ xs. rs ++ with_tid t xs) (sym e) ∙ h
  where
    nil : (xs : List Record) → xs ++ [] ≡ xs
    nil [] = refl
    nil (x ∷ xs) = ap (λ ys. x ∷ ys) (nil xs)
