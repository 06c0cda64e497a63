-- A tree made of its rows in a loop: after the first row, and row by row.
use Rattle.std.specs.Prelude.{◌≡◌, ℕ, suc, ◌+◌, ◌≤◌, ◌<◌, true, false, List, [], ◌∷◌, ◌++◌, length}
use Rattle.std.proofs.Common.{sym, ap, subst, ◌∙◌, T, take, drop, get_or, add-one}
use Rattle.std.proofs.lemmas.List.{map-append, take-append-drop, take_all}
use Rattle.std.proofs.Math.Seq.{drop-cons, take-suc}
use Rattle.std.specs.declared.option.Option.TheVariants.{Some}
use Rattle.std.specs.FinMap.Entries.{is_sorted}
use Rattle.cp_model.specs.declared.row.Content.{Content}
use Rattle.cp_model.specs.declared.row.Content.TheVariants.{Node}
use Rattle.cp_model.specs.declared.row.Row.{Row}
use Rattle.cp_model.specs.Place.{Label, Path, path_cmp, child}
use Rattle.cp_model.specs.Keyed as keyed
use Rattle.cp_model.specs.Subtrees.{with_subtree, is_there}
use Rattle.cp_model.specs.Tree.{IsRooted}
use Rattle.cp_model.specs.History.{IsLiteral}
use Rattle.cp_tree.specs.Rows.{entries_in, root_entries, single, tree_of_rows}
use Rattle.cp_tree.proofs.BranchLemmas.{entries-from_entries}
use Rattle.cp_tree.proofs.Steps.{row_added, row_is_new, parent_there, first_is_root, others_below}

module _ (first : Row) (rest : List Row) (l : IsLiteral (entries_in (first ∷ rest))) where
  -- the first row alone is a root alone
  pub tree_of_rows-first : tree_of_rows (first ∷ []) ≡ single first.content
  tree_of_rows-first = ap (λ p. keyed.from_entries ((p, first.content) ∷ [])) (first_is_root (first.path, first.content) (entries_in rest) l)

  -- the row at this index of the others
  module _ (i : ℕ) (row : Row) (lt : i < length rest) (at : row ≡ get_or rest i row) where
    split_at : rest ≡ take i rest ++ row ∷ drop (suc i) rest
    split_at = sym (take-append-drop i rest) ∙ ap (λ z. take i rest ++ z) (drop-cons rest i row lt ∙ ap (λ y. y ∷ drop (suc i) rest) (sym at))

    in_parts : entries_in rest ≡ entries_in (take i rest) ++ (row.path, row.content) ∷ entries_in (drop (suc i) rest)
    in_parts = ap entries_in split_at ∙ map-append (λ (r : Row). (r.path, r.content)) (take i rest) (row ∷ drop (suc i) rest)

    -- it isn't a root
    pub row_below : row.path ≡ [] → true ≡ false
    row_below e = others_below (entries_in (take i rest)) (row.path, row.content) (entries_in (drop (suc i) rest)) (first.path, first.content) (subst (λ z. T (is_sorted path_cmp ((first.path, first.content) ∷ z))) in_parts l.sorted) e

    module _ (p : Path) (a : Label) (path : row.path ≡ child p a) where
      parts : entries_in rest ≡ entries_in (take i rest) ++ (child p a, row.content) ∷ entries_in (drop (suc i) rest)
      parts = in_parts ∙ ap (λ q. entries_in (take i rest) ++ (q, row.content) ∷ entries_in (drop (suc i) rest)) path

      sorted_parts : T (is_sorted path_cmp (entries_in (first ∷ take i rest) ++ (child p a, row.content) ∷ entries_in (drop (suc i) rest)))
      sorted_parts = subst (λ z. T (is_sorted path_cmp ((first.path, first.content) ∷ z))) parts l.sorted

      -- its parent is a node of the tree of those before it
      pub tree_of_rows-parent : keyed.get (tree_of_rows (first ∷ take i rest)) p ≡ Some Node
      tree_of_rows-parent = parent_there (entries_in (first ∷ take i rest)) p a row.content (entries_in (drop (suc i) rest)) sorted_parts (subst (λ z. IsRooted (keyed.from_entries ((first.path, first.content) ∷ z))) parts l.rooted)

      -- it isn't there yet
      pub tree_of_rows-free : is_there (tree_of_rows (first ∷ take i rest)) (child p a) ≡ false
      tree_of_rows-free = row_is_new (entries_in (first ∷ take i rest)) p a row.content (entries_in (drop (suc i) rest)) sorted_parts

      -- and as a leaf added it makes the tree of one row more
      pub tree_of_rows-more : tree_of_rows (first ∷ take (i + 1) rest) ≡ with_subtree (child p a) (root_entries row.content) (tree_of_rows (first ∷ take i rest))
      tree_of_rows-more =
          ap (λ z. keyed.from_entries ((first.path, first.content) ∷ z)) (ap entries_in (ap (λ k. take k rest) (add-one i) ∙ take_one) ∙ map-append (λ (r : Row). (r.path, r.content)) (take i rest) (row ∷ []) ∙ ap (λ q. entries_in (take i rest) ++ (q, row.content) ∷ []) path)
          ∙ row_added (entries_in (first ∷ take i rest)) p a row.content (entries_in (drop (suc i) rest)) sorted_parts
        where
          take_one : take (suc i) rest ≡ take i rest ++ row ∷ []
          take_one = take-suc rest i row lt ∙ ap (λ y. take i rest ++ y ∷ []) (sym at)

  -- all rows
  pub tree_of_rows-all : (i : ℕ) → length rest ≤ i → tree_of_rows (first ∷ take i rest) ≡ tree_of_rows (first ∷ rest)
  tree_of_rows-all i h = ap (λ z. tree_of_rows (first ∷ z)) (take_all i rest h)

-- the entries of a tree made of rows are theirs
pub entries-tree_of_rows : (rows : List Row) → IsLiteral (entries_in rows) → keyed.entries (tree_of_rows rows) ≡ entries_in rows
entries-tree_of_rows rows l = entries-from_entries (entries_in rows) l.sorted

-- a root alone has one entry
pub entries-single : (c : Content) → keyed.entries (single c) ≡ root_entries c
entries-single c = entries-from_entries (root_entries c) tt
