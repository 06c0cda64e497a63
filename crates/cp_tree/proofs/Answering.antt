-- What a subtree that was found says of the whole tree, and one change said of other rows or of another path.
use Rattle.std.specs.Prelude.{◌≡◌, true, List, [], ◌∷◌, ◌++◌, map, length, is_some, IfSome, IfNone, Result, Ok, Err, OnOk}
use Rattle.std.proofs.Common.{sym, ap, subst, ◌∙◌, arith, refl, append_assoc}
use Rattle.std.specs.List.{filter_map}
use Rattle.std.specs.declared.option.Option.{Option}
use Rattle.std.specs.declared.option.Option.TheVariants.{None, Some}
use denote.Ref.{Bor}
use Rattle.cp_model.specs.declared.row.Content.{Content}
use Rattle.cp_model.specs.declared.row.Row.{Row}
use Rattle.cp_model.specs.Place.{Label, Path, child}
use Rattle.cp_model.proofs.KeyedLemmas.{get-entries, same_map}
use Rattle.cp_model.specs.Keyed as keyed
use Rattle.cp_model.specs.Keyed.{look}
use Rattle.cp_model.specs.Subtrees.{is_there, below, entries_under, with_subtree}
use Rattle.cp_model.specs.Tree.{Tree, IsRooted, IsTree}
use Rattle.cp_model.specs.History.{IsLiteral}
use Rattle.cp_model.proofs.Strips.{append-nil, strip-append}
use Rattle.cp_model.specs.Laws.{at_rest_or}
use Rattle.cp_model.proofs.Lookups.{get-replaced}
use Rattle.cp_tree.specs.Branch.{sub}
use Rattle.cp_tree.proofs.BranchLemmas.{get-sub, sub-root, entries-sub}
use Rattle.cp_tree.specs.Rows.{tree_of_rows, entry_row, entries_in, root_entries, single, only_label, labels_at, reach_of}
use Rattle.cp_tree.proofs.Built.{entries-tree_of_rows, entries-single}
use Rattle.cp_tree.proofs.ListingLemmas.{moved-root}
use Rattle.cp_tree.specs.declared.reach.Reach.{Reach}

-- what stands at a subtree's root stands at its place
pub root_of : (n m : Tree) (p q : Path) → n ≡ sub m q → q ≡ p → keyed.get n [] ≡ keyed.get m p
root_of n m p q e k = ap (λ z. keyed.get z []) e ∙ get-sub m q [] ∙ ap (keyed.get m) (append-nil q ∙ k)

-- whether a node was found is whether one is there
pub got : (o : Option (Bor Tree)) (m : Tree) (p q : Path) → q ≡ p → IfSome o (λ n. n.now ≡ sub m q) → IfSome o (λ n. IsRooted n.now) → IfNone o (keyed.get m q ≡ None) → is_some o ≡ is_there m p
got None m p q k t r g = sym (ap is_some (sym (ap (keyed.get m) k) ∙ g))
got (Some n) m p q k t r g = sym (sym (ap is_some (root_of n.now m p q t k)) ∙ r.root)

-- the rows below a place
pub below_is : (n m : Tree) (p q : Path) → n ≡ sub m q → q ≡ p → keyed.entries n ≡ below p m
below_is n m p q e k = ap keyed.entries e ∙ entries-sub m q ∙ ap (λ z. below z m) k

-- the labels below a place
pub labels_sub : (n m : Tree) (p q : Path) → n ≡ sub m q → q ≡ p → labels_at n [] ≡ labels_at m p
unfolding labels_at
labels_sub n m p q e k = ap (filter_map (λ e. only_label e.0)) (sym (entries-sub n []) ∙ ap keyed.entries (sub-root n) ∙ below_is n m p q e k)

-- the rows that were listed
pub rows_at : (out first : List Row) (at : Path) (n m : Tree) (p q : Path) → out ≡ first ++ map entry_row (entries_under at (keyed.entries n)) → first ≡ [] → at ≡ [] → n ≡ sub m q → q ≡ p → out ≡ map entry_row (below p m)
rows_at out first at n m p q o f a e k =
    o ∙ ap (λ z. z ++ map entry_row (entries_under at (keyed.entries n))) f ∙ ap (λ z. map entry_row (entries_under z (keyed.entries n))) a
    ∙ ap (map entry_row) (moved-root (keyed.entries n) ∙ below_is n m p q e k)

-- the whole at its root
pub reach_whole : (m : Tree) (p : Path) (r : Reach) → length p ≡ 0 → r ≡ reach_of (keyed.entries m) → r ≡ reach_of (below p m)
reach_whole m [] r z e = e ∙ ap reach_of (sym (ap keyed.entries (sub-root m)) ∙ entries-sub m [])
reach_whole m (a ∷ p) r z e = absurd (omega arith)

-- a subtree of a subtree
pub sub-child : (m n : Tree) (p : Path) (a : Label) → n ≡ sub m p → sub n (a ∷ []) ≡ sub m (child p a)
sub-child m n p a e = same_map (sub n (a ∷ [])) (sub m (child p a)) (λ q.
    get-sub n (a ∷ []) q ∙ ap (λ z. keyed.get z (a ∷ q)) e ∙ get-sub m p (a ∷ q) ∙ ap (keyed.get m) (sym (append_assoc p (a ∷ []) q)) ∙ sym (get-sub m (child p a) q))

-- below what isn't there is nothing
pub gone_below : (m : Tree) (p : Path) (a : Label) → IsRooted m → keyed.get m p ≡ None → keyed.get m (child p a) ≡ None
gone_below m p a r e = by (keyed.get m (child p a)) refl
  where
    by : (o : Option Content) → keyed.get m (child p a) ≡ o → o ≡ None
    by None k = refl
    by (Some c) k = (let up = r.parents p a (ap is_some k) in absurd (cc))

-- a subtree that was put is there
pub sub-replaced : (m n : Tree) (p : Path) → sub (with_subtree p (keyed.entries n) m) p ≡ n
sub-replaced m n p = same_map (sub (with_subtree p (keyed.entries n) m) p) n (λ q.
    get-sub (with_subtree p (keyed.entries n) m) p q ∙ get-replaced p (keyed.entries n) m (p ++ q) ∙ ap (λ o. at_rest_or o (λ s. look s (keyed.entries n)) (keyed.get m (p ++ q))) (strip-append p q) ∙ sym (get-entries n q))

-- what is put is there
pub put_there : (m n : Tree) (p : Path) → IsRooted n → is_there (with_subtree p (keyed.entries n) m) p ≡ true
put_there m n p r = sym (ap is_some (root_of n (with_subtree p (keyed.entries n) m) p p (sym (sub-replaced m n p)) refl)) ∙ r.root

-- ---- the same change, said of other rows and another path

module _ (m : Tree) (p q : Path) (es fs : List (Path × Content)) (k : q ≡ p) (e : es ≡ fs) where
  changed_as : with_subtree q es m ≡ with_subtree p fs m
  changed_as = ap (λ z. with_subtree z es m) k ∙ ap (λ z. with_subtree p z m) e

  pub fits_as : IsTree (with_subtree p fs m) → IsTree (with_subtree q es m)
  fits_as h = subst IsTree (sym changed_as) h

  pub done_as : (new : Tree) → new ≡ with_subtree q es m → new ≡ with_subtree p fs m
  done_as new h = h ∙ changed_as

  pub tried_as : {E : Type 0} (r : Result (Unit {0}) E) (new : Tree) → OnOk r (new ≡ with_subtree q es m) → OnOk r (new ≡ with_subtree p fs m)
  tried_as (Ok u) new h = h ∙ changed_as
  tried_as (Err y) new h = tt

-- the rows of a leaf
pub leaf_rows : (n : Tree) (c d : Content) → n ≡ single d → d ≡ c → keyed.entries n ≡ root_entries c
leaf_rows n c d e k = ap keyed.entries e ∙ entries-single d ∙ ap root_entries k

-- the rows of a tree that was built
pub built_rows : (n : Tree) (rows : List Row) → IsLiteral (entries_in rows) → n ≡ tree_of_rows rows → (keyed.entries n ≡ entries_in rows) × IsRooted n
built_rows n rows l e = (ap keyed.entries e ∙ entries-tree_of_rows rows l, subst IsRooted (sym e) l.rooted)
