-- A tree built from its rows, one by one.
use Rattle.std.specs.Prelude.{◌≡◌, ℕ, ◌+◌, ◌≤◌, ◌<◌, true, false, List, [], ◌∷◌, ◌++◌, length, take, Result, Ok, Err, OnOk, is_some}
use Rattle.std.proofs.Common.{sym, ap, subst, ◌∙◌, arith, get_or, add-one, refl}
use Rattle.std.specs.declared.option.Option.TheVariants.{Some}
use Rattle.cp_model.specs.declared.row.Content.{Content}
use Rattle.cp_model.specs.declared.row.Content.TheVariants.{Node}
use Rattle.cp_model.specs.declared.row.Row.{Row}
use Rattle.cp_model.specs.Place.{Label, Path, child}
use Rattle.cp_model.specs.Keyed as keyed
use Rattle.cp_model.specs.Subtrees.{with_subtree, is_there}
use Rattle.cp_model.specs.Tree.{Tree}
use Rattle.cp_model.specs.History.{IsLiteral}
use Rattle.cp_model.proofs.Lookups.{find-from_entries}
use Rattle.cp_tree.specs.Rows.{entries_in, root_entries, single, tree_of_rows}
use Rattle.cp_tree.proofs.Built.{tree_of_rows-first, row_below, tree_of_rows-parent, tree_of_rows-free, tree_of_rows-more, tree_of_rows-all, entries-single}

-- a leaf put at a row's place
pub put_row : {E : Type 0} (r : Result (Unit {0}) E) (new root leaf : Tree) (path parent : Path) (a b : Label) (c d : Content) → path ≡ parent ++ a ∷ [] → b ≡ a → leaf ≡ single d → d ≡ c →
    OnOk r (new ≡ with_subtree (child parent b) (keyed.entries leaf) root) → OnOk r (new ≡ with_subtree path (root_entries c) root)
put_row (Err y) new root leaf path parent a b c d p l s e h = tt
put_row (Ok u) new root leaf path parent a b c d p l s e h =
    let rows : keyed.entries leaf ≡ root_entries c = ap keyed.entries s ∙ entries-single d ∙ ap root_entries e in
    h ∙ ap (λ z. with_subtree (child parent z) (keyed.entries leaf) root) l ∙ ap (λ z. with_subtree z (keyed.entries leaf) root) (sym p) ∙ ap (λ z. with_subtree path z root) rows

-- no rows are no tree
pub no_rows : (rows : List Row) → rows ≡ [] → IsLiteral (entries_in rows) → ⊥
no_rows rows e l = (let n = ap is_some (find-from_entries (entries_in rows) []) ∙ ap (λ z. is_some (keyed.look [] (entries_in z))) e in let r = l.rooted.root in absurd (cc))

-- a path that has labels ends in one
pub last_of : (q : Path) → 0 < length q → (r : Path) × (a : Label) × (q ≡ child r a)
last_of [] h = absurd (omega arith)
last_of (b ∷ []) h = ([], b, refl)
last_of (b ∷ c ∷ q) h = (let more = last_of (c ∷ q) (omega arith) in (b ∷ more.0, more.1, ap (λ z. b ∷ z) more.2))

take_first : (rows rest : List Row) (first : Row) (i : ℕ) → rows ≡ first ∷ rest → take (i + 1) rows ≡ first ∷ take i rest
take_first rows rest first i e = ap (take (i + 1)) e ∙ ap (λ n. take n (first ∷ rest)) (add-one i)

module _ (rows rest : List Row) (first : Row) (e : rows ≡ first ∷ rest) (l : IsLiteral (entries_in rows)) where
  literal : IsLiteral (entries_in (first ∷ rest))
  literal = subst (λ z. IsLiteral (entries_in z)) e l

  -- the first row
  pub begun_build : (root : Tree) (d : Content) → root ≡ single d → d ≡ first.content → root ≡ tree_of_rows (take (0 + 1) rows)
  begun_build root d s c = s ∙ ap single c ∙ sym (tree_of_rows-first first rest literal) ∙ ap tree_of_rows (sym (take_first rows rest first 0 e))

  module _ (i : ℕ) (row : Row) (lt : i < length rest) (at : row ≡ get_or rest i row) where
    -- a further row is no root
    pub row_deep : 0 < length row.path
    row_deep = by row.path refl
      where
        by : (p : Path) → row.path ≡ p → 0 < length p
        by [] k = absurd (let ne = row_below first rest literal i row lt at k in cc)
        by (a ∷ p) k = omega arith

    module _ (root : Tree) (so_far : root ≡ tree_of_rows (take (i + 1) rows)) where
      -- its parent is there
      pub row_parent : (p : Path) (a : Label) → row.path ≡ child p a → keyed.get root p ≡ Some Node
      row_parent p a k = ap (λ z. keyed.get z p) (so_far ∙ ap tree_of_rows (take_first rows rest first i e)) ∙ tree_of_rows-parent first rest literal i row lt at p a k

      -- it isn't there yet
      pub row_free : (p : Path) (a : Label) → row.path ≡ child p a → is_there root row.path ≡ false
      row_free p a k = ap (is_there root) k ∙ ap (λ z. is_there z (child p a)) (so_far ∙ ap tree_of_rows (take_first rows rest first i e)) ∙ tree_of_rows-free first rest literal i row lt at p a k

      -- with it the tree is that of one row more
      pub row_built : (new : Tree) → new ≡ with_subtree row.path (root_entries row.content) root → new ≡ tree_of_rows (take ((i + 1) + 1) rows)
      row_built new n =
          n ∙ ap (with_subtree row.path (root_entries row.content)) (so_far ∙ ap tree_of_rows (take_first rows rest first i e))
          ∙ by row.path refl ∙ ap tree_of_rows (sym (take_first rows rest first (i + 1) e))
        where
          by : (p : Path) → row.path ≡ p → with_subtree row.path (root_entries row.content) (tree_of_rows (first ∷ take i rest)) ≡ tree_of_rows (first ∷ take (i + 1) rest)
          by p k = last p k (last_of p (omega (arith, row_deep, ap (λ z. length z) k)))
            where
              last : (q : Path) → row.path ≡ q → (r : Path) × (a : Label) × (q ≡ child r a) → with_subtree row.path (root_entries row.content) (tree_of_rows (first ∷ take i rest)) ≡ tree_of_rows (first ∷ take (i + 1) rest)
              last q k x = ap (λ z. with_subtree z (root_entries row.content) (tree_of_rows (first ∷ take i rest))) (k ∙ x.2) ∙ sym (tree_of_rows-more first rest literal i row lt at x.0 x.1 (k ∙ x.2))

  -- all rows
  pub built_all : (i : ℕ) (root : Tree) → length rest ≤ i → root ≡ tree_of_rows (take (i + 1) rows) → root ≡ tree_of_rows rows
  built_all i root h s = s ∙ ap tree_of_rows (take_first rows rest first i e) ∙ tree_of_rows-all first rest literal i h ∙ ap tree_of_rows (sym e)
