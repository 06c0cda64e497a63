-- The rows that a kind keeps of a step are in the order of their places.
use Rattle.std.specs.Prelude.{true, List, [], ◌∷◌, map}
use Rattle.std.proofs.Common.{T}
use Rattle.std.specs.List.{cons_option}
use Rattle.std.specs.Ordering.{is_lt}
use Rattle.std.specs.FinMap.Entries.{is_sorted, below_all}
use Rattle.std.specs.declared.option.Option.{Option}
use Rattle.std.specs.declared.option.Option.TheVariants.{None, Some}
use Rattle.cp_model.specs.Place.{Path, path_cmp, option_map}
use Rattle.cp_model.specs.Keyed as keyed
use Rattle.cp_model.specs.Subtrees.{map_values, with_values}
use Rattle.cp_model.specs.Tree.{Tree}
use Rattle.cp_model.specs.Step.{Working}
use Rattle.cp_model.specs.Rows.{Mark, full_here, reduced_here, full_rows, reduced_rows, rows_with_marks, all_paths}
use Rattle.cp_model.specs.History.{rows_of}
use Rattle.cp_model.specs.declared.kind.Kind.{Kind}
use Rattle.cp_model.specs.declared.kind.Kind.TheVariants as kind
use Rattle.cp_model.proofs.Sorted.{parts_of, all_of, sorted-entries}

module _ {X : Type 0} where
  -- marks of paths that are above k are above it
  below_marked : (f : Path → Option Mark) (k : Path) (es : List (Path × X)) → T (below_all path_cmp k es) → T (below_all path_cmp k (rows_with_marks f (map (λ e. e.0) es)))
  below_marked f k [] h = tt
  below_marked f k (e ∷ es) h =
      let parts = parts_of (is_lt (path_cmp k e.0)) (below_all path_cmp k es) h in
      let rest = below_marked f k es parts.1 in
      elim (f e.0) as (λ o. T (below_all path_cmp k (cons_option (option_map (λ m. (e.0, m)) o) (rows_with_marks f (map (λ e. e.0) es))))) [
        | None ↦ rest
        | Some m ↦ all_of (is_lt (path_cmp k e.0)) (below_all path_cmp k (rows_with_marks f (map (λ e. e.0) es))) parts.0 rest
      ]

  -- marks of paths that rise, rise
  sorted_marked : (f : Path → Option Mark) (es : List (Path × X)) → T (is_sorted path_cmp es) → T (is_sorted path_cmp (rows_with_marks f (map (λ e. e.0) es)))
  sorted_marked f [] h = tt
  sorted_marked f (e ∷ es) h =
      let parts = parts_of (below_all path_cmp e.0 es) (is_sorted path_cmp es) h in
      let rest = sorted_marked f es parts.1 in
      elim (f e.0) as (λ o. T (is_sorted path_cmp (cons_option (option_map (λ m. (e.0, m)) o) (rows_with_marks f (map (λ e. e.0) es))))) [
        | None ↦ rest
        | Some m ↦ all_of (below_all path_cmp e.0 (rows_with_marks f (map (λ e. e.0) es))) (is_sorted path_cmp (rows_with_marks f (map (λ e. e.0) es))) (below_marked f e.0 es parts.0) rest
      ]

-- the full rows of a step rise
pub sorted-full_rows : (a : Tree) (w : Working) → T (is_sorted path_cmp (full_rows a w))
unfolding all_paths
sorted-full_rows a w = sorted_marked (full_here a w) (keyed.entries (keyed.put_all (with_values (λ _ _. true) (keyed.entries w)) (map_values (λ _ _. true) a))) (sorted-entries _)

-- the reduced rows of a step rise
pub sorted-reduced_rows : (a : Tree) (w : Working) → T (is_sorted path_cmp (reduced_rows a w))
unfolding all_paths
sorted-reduced_rows a w = sorted_marked (reduced_here a w) (keyed.entries (keyed.put_all (with_values (λ _ _. true) (keyed.entries w)) (map_values (λ _ _. true) a))) (sorted-entries _)

-- the rows that a kind keeps of a step rise
pub sorted-rows_of : (k : Kind) (a : Tree) (w : Working) → T (is_sorted path_cmp (rows_of k a w))
sorted-rows_of kind.N a w = sorted-full_rows a w
sorted-rows_of kind.T a w = sorted-full_rows a w
sorted-rows_of kind.H a w = sorted-reduced_rows a w
sorted-rows_of kind.HT a w = sorted-reduced_rows a w
