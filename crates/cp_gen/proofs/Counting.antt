-- The places of a state: what one answers, and what they come to, counted one after another.
use Rattle.std.specs.Prelude.{ℕ, zero, suc, ◌≡◌, ◌+◌, ◌<◌, ◌≤◌, ◌&&◌, Bool, true, false, cond, List, [], ◌∷◌, ◌++◌, length, map, take, get_or, is_some, sum_by, refl, if◌then◌else◌}
use Rattle.std.specs.List.{filter_map}
use Rattle.std.proofs.Common.{sym, ap, subst, ◌∙◌, T, arith}
use Rattle.std.proofs.lemmas.List.{take_more}
use Rattle.std.proofs.lemmas.Option.{none-some}
use Rattle.std.proofs.lemmas.List.Sums.{sum_by_push}
use Rattle.std.specs.FinMap.Entries.{is_sorted, below_all}
use Rattle.std.specs.Ordering.{is_lt}
use Rattle.std.specs.declared.option.Option.{Option}
use Rattle.std.specs.declared.option.Option.TheVariants.{None, Some}
use Rattle.cp_model.specs.Place.{Path, path_cmp, at_target, in_target}
use Rattle.cp_model.specs.Keyed as keyed
use Rattle.cp_model.specs.Keyed.{Keyed}
use Rattle.cp_model.specs.Subtrees.{below, is_there, with_values, map_values}
use Rattle.cp_model.specs.Tree.{Tree}
use Rattle.cp_model.specs.Past.{Aged, past_of, tree_of}
use Rattle.cp_model.specs.History.{State}
use Rattle.cp_model.specs.Answers.{answer_to, src_of, copy_tid, stats}
use Rattle.cp_model.specs.declared.answer.Answer.{Answer}
use Rattle.cp_model.specs.declared.answer.Answer.TheVariants as answer
use Rattle.cp_model.specs.declared.answer.Stats.{Stats}
use Rattle.cp_model.specs.declared.query.Query.TheVariants as query
use Rattle.cp_model.specs.declared.row.Row.{Row}
use Rattle.cp_model.specs.declared.row.Content.{Content}
use Rattle.cp_model.proofs.Sorted.{sorted-entries}
use Rattle.cp_tree.specs.Rows.{entry_row}
use Rattle.cp_tree.proofs.BranchLemmas.{entries-from_entries, entries-sub, sub-root}
use Rattle.cp_gen.specs.Summaries.{is_born, copies_at, count_born, count_copies, has_tid, paths_in, row_paths, tid_count}

-- ---- what a place answers

module _ (t : State) (p : Path) where
  -- an answer to `src` is that of the place
  pub born-given : (a : Answer) → Some a ≡ answer_to t (query.Src (at_target p)) → has_tid a ≡ is_born t p
  unfolding answer_to
  born-given a e = by (in_target (at_target p) && is_there t.tree p) _ e
    where
      by : (b : Bool) (u : Option ℕ) → Some a ≡ (if b then Some (answer.Src u) else None) → has_tid a ≡ is_some u
      by true u e = let same : a ≡ answer.Src u = cc in ap has_tid same
      by false u e = absurd (cc)

  -- without one nothing was inserted there
  pub born-none : None ≡ answer_to t (query.Src (at_target p)) → false ≡ is_born t p
  unfolding answer_to
  born-none e = by (keyed.get t.tree p) e
    where
      by : (o : Option Aged) → None ≡ (if in_target (at_target p) && is_some o then Some (answer.Src (src_of (past_of o))) else None) → false ≡ is_some (src_of (past_of o))
      by None e = refl
      by (Some x) e = absurd (none-some _ e)

  -- an answer to `hist` is that of the place
  pub copies-given : (a : Answer) → Some a ≡ answer_to t (query.Hist (at_target p)) → tid_count a ≡ copies_at t p
  unfolding answer_to
  copies-given a e = by (in_target (at_target p) && is_there t.tree p) _ e
    where
      by : (b : Bool) (us : List ℕ) → Some a ≡ (if b then Some (answer.Tids us) else None) → tid_count a ≡ length us
      by true us e = let same : a ≡ answer.Tids us = cc in ap tid_count same
      by false us e = absurd (cc)

  -- without one nothing was copied there
  pub copies-none : None ≡ answer_to t (query.Hist (at_target p)) → 0 ≡ copies_at t p
  unfolding answer_to
  copies-none e = by (keyed.get t.tree p) e
    where
      by : (o : Option Aged) → None ≡ (if in_target (at_target p) && is_some o then Some (answer.Tids (filter_map copy_tid (past_of o))) else None) → 0 ≡ length (filter_map copy_tid (past_of o))
      by None e = refl
      by (Some x) e = absurd (none-some _ e)

-- an answer to `stats` is the state's
pub numbers-given : (t : State) (a : Answer) (n : Stats) → a ≡ answer.Stats n → Some a ≡ answer_to t query.Stats → n ≡ stats t
unfolding answer_to
numbers-given t a n is e = let same : Some (answer.Stats n) ≡ Some (answer.Stats (stats t)) = ap (λ x. Some x) (sym is) ∙ e in cc

-- ---- one more

-- what the paths of rows add up to, with one row more
sum_more : (f : Path → ℕ) (rows : List Row) (i : ℕ) (x : Row) → i < length rows → x ≡ get_or rows i x → sum_by f (row_paths (take (i + 1) rows)) ≡ sum_by f (row_paths (take i rows)) + f x.path
sum_more f rows i x lt e =
    ap (λ (rs : List Row). sum_by f (row_paths rs)) (take_more rows i x lt ∙ ap (λ y. take i rows ++ y ∷ []) (sym e))
    ∙ ap (sum_by f) (pushed (take i rows))
    ∙ sum_by_push f (row_paths (take i rows)) x.path
  where
    pushed : (rs : List Row) → row_paths (rs ++ x ∷ []) ≡ row_paths rs ++ x.path ∷ []
    pushed [] = refl
    pushed (r ∷ rs) = ap (λ ps. r.path ∷ ps) (pushed rs)

-- so many were born with one row more
pub born-more : (t : State) (rows : List Row) (i : ℕ) (x : Row) → i < length rows → x ≡ get_or rows i x → count_born t (row_paths (take (i + 1) rows)) ≡ count_born t (row_paths (take i rows)) + cond (is_born t x.path) 1 0
born-more t rows i x lt e = sum_more (λ p. cond (is_born t p) 1 0) rows i x lt e

-- and so many copies were made
pub copies-more : (t : State) (rows : List Row) (i : ℕ) (x : Row) → i < length rows → x ≡ get_or rows i x → count_copies t (row_paths (take (i + 1) rows)) ≡ count_copies t (row_paths (take i rows)) + copies_at t x.path
copies-more t rows i x lt e = sum_more (copies_at t) rows i x lt e

-- all rows
pub all-taken : (rows : List Row) (i : ℕ) → length rows ≤ i → take i rows ≡ rows
all-taken [] zero h = refl
all-taken [] (suc i) h = refl
all-taken (r ∷ rows) zero h = absurd (omega arith)
all-taken (r ∷ rows) (suc i) h = ap (λ rs. r ∷ rs) (all-taken rows i (omega arith))

-- ---- the rows of the committed tree

module _ {X Y : Type 0} (f : Path → X → Y) where
  below_values : (k : Path) (es : List (Path × X)) → below_all path_cmp k (with_values f es) ≡ below_all path_cmp k es
  below_values k [] = refl
  below_values k (e ∷ es) = ap (λ b. is_lt (path_cmp k e.0) && b) (below_values k es)

  sorted_values : (es : List (Path × X)) → is_sorted path_cmp (with_values f es) ≡ is_sorted path_cmp es
  sorted_values [] = refl
  sorted_values (e ∷ es) = ap (λ b. b && is_sorted path_cmp (with_values f es)) (below_values e.0 es) ∙ ap (λ b. below_all path_cmp e.0 es && b) (sorted_values es)

  paths_of_values : (es : List (Path × X)) → map (λ e. e.0) (with_values f es) ≡ map (λ e. e.0) es
  paths_of_values [] = refl
  paths_of_values (e ∷ es) = ap (λ ps. e.0 ∷ ps) (paths_of_values es)

  -- a map with other values has the same paths
  paths_mapped : (m : Keyed X) → map (λ e. e.0) (keyed.entries (map_values f m)) ≡ map (λ e. e.0) (keyed.entries m)
  paths_mapped m =
      ap (map (λ e. e.0)) (entries-from_entries (with_values f (keyed.entries m)) (subst T (sym (sorted_values (keyed.entries m))) (sorted-entries m)))
      ∙ paths_of_values (keyed.entries m)

-- the rows at the root are all entries
all_below : (u : Tree) → below [] u ≡ keyed.entries u
all_below u = sym (entries-sub u []) ∙ ap keyed.entries (sub-root u)

paths_of_rows : (es : List (Path × Content)) → row_paths (map entry_row es) ≡ map (λ e. e.0) es
paths_of_rows [] = refl
paths_of_rows (e ∷ es) = ap (λ ps. e.0 ∷ ps) (paths_of_rows es)

length_of_rows : (es : List (Path × Content)) → length (map entry_row es) ≡ length es
length_of_rows [] = refl
length_of_rows (e ∷ es) = omega (arith, length_of_rows es)

-- the rows of a state's tree are at its paths
pub rows-paths : (t : State) (u : Tree) (rows : List Row) → rows ≡ map entry_row (below [] u) → u ≡ tree_of t.tree → row_paths rows ≡ paths_in t
rows-paths t u rows e is =
    ap row_paths e ∙ paths_of_rows (below [] u) ∙ ap (map (λ x. x.0)) (all_below u ∙ ap keyed.entries is) ∙ paths_mapped (λ _ (x : Aged). x.content) t.tree

-- there are as many rows as places
pub rows-length : (u : Tree) (rows : List Row) → rows ≡ map entry_row (below [] u) → length rows ≡ keyed.len u
unfolding keyed.len keyed.entries
rows-length u rows e = ap length e ∙ length_of_rows (below [] u) ∙ ap length (all_below u)
