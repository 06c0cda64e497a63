-- The rows of a tree, listed from its root and edge by edge.
use Rattle.std.specs.Prelude.{◌≡◌, true, List, [], ◌∷◌, ◌++◌, map, is_some, refl}
use Rattle.std.proofs.Common.{sym, ap, ◌∙◌, T, append_assoc}
use Rattle.std.proofs.lemmas.List.{map-append}
use Rattle.std.proofs.lemmas.List.Elements.{filter_map-append}
use Rattle.std.specs.List.{filter_map}
use Rattle.std.specs.Ordering.{is_lt}
use Rattle.std.specs.FinMap.Entries.{is_sorted, below_all}
use Rattle.cp_path.specs.Text.{text_cmp}
use Rattle.cp_model.specs.declared.row.Content.{Content}
use Rattle.cp_model.specs.Place.{Label, Path, path_cmp, child}
use Rattle.cp_model.proofs.KeyedLemmas.{get-entries}
use Rattle.cp_model.specs.Keyed as keyed
use Rattle.cp_model.specs.Keyed.{look, Keyed}
use Rattle.cp_model.specs.Subtrees.{below, entries_under, is_there}
use Rattle.cp_model.specs.Tree.{Tree, IsTree}
use Rattle.cp_model.specs.History.{IsLiteral}
use Rattle.cp_model.proofs.Lookups.{find-from_entries}
use Rattle.cp_model.proofs.Rooted.{rows-below}
use Rattle.cp_model.proofs.Strips.{append-nil}
use Rattle.cp_model.proofs.Sorted.{parts_of, sorted-entries, sorted-below, root-first}
use Rattle.cp_tree.specs.Branch.{below_label, child_rows, branch, sub}
use Rattle.cp_tree.proofs.BranchLemmas.{entries-branch, entries-sub}
use Rattle.cp_tree.specs.Good.{AllRooted, IsGood}
use Rattle.cp_tree.specs.Rows.{entry_row, entries_in, only_label, labels_at}

-- entries as rows and back
pub entries_in-rows : (es : List (Path × Content)) → entries_in (map entry_row es) ≡ es
entries_in-rows [] = refl
entries_in-rows (e ∷ es) = ap (λ z. e ∷ z) (entries_in-rows es)

-- the rows of a subtree that is there are those of a whole tree
pub literal-below : (t : Tree) (q : Path) → IsTree t → is_there t q ≡ true → IsLiteral (below q t)
literal-below t q h i =
    let d = rows-below t q h i in
    record {
      sorted = sorted-below q t;
      rooted = record { root = ap is_some (find-from_entries (below q t) []) ∙ d.root; parents = λ p a j. find-from_entries (below q t) p ∙ d.parents p a (ap is_some (sym (find-from_entries (below q t) (child p a))) ∙ j) };
      texts = d.texts;
      spelled = d.spelled;
    }

module _ {X : Type 0} where
  -- rows behind the root stay
  pub moved-root : (es : List (Path × X)) → entries_under [] es ≡ es
  unfolding entries_under
  moved-root [] = refl
  moved-root (e ∷ es) = ap (λ z. e ∷ z) (moved-root es)

  -- rows and rows behind a path
  pub moved-append : (p : Path) (es fs : List (Path × X)) → entries_under p (es ++ fs) ≡ entries_under p es ++ entries_under p fs
  unfolding entries_under
  moved-append p es fs = map-append (λ e. (p ++ e.0, e.1)) es fs

  -- the first of rows behind a path
  pub moved-first : (p : Path) (x : X) (es : List (Path × X)) → entries_under p (([], x) ∷ es) ≡ (p, x) ∷ entries_under p es
  unfolding entries_under
  moved-first p x es = ap (λ q. (q, x) ∷ entries_under p es) (append-nil p)

  -- the rows of a child, seen from its parent and then from further up
  pub moved-below_label : (p : Path) (a : Label) (es : List (Path × X)) → entries_under p (below_label a es) ≡ entries_under (child p a) es
  unfolding entries_under
  moved-below_label p a [] = refl
  moved-below_label p a (e ∷ es) = λ i. (sym (append_assoc p (a ∷ []) e.0) i, e.1) ∷ moved-below_label p a es i

  -- the rows of a tree at a place: that of its root, and those below its edges
  pub moved-branch : (p : Path) (x : X) (es : List (Label × Keyed X)) → T (is_sorted text_cmp es) → entries_under p (keyed.entries (branch x es)) ≡ (p, x) ∷ entries_under p (child_rows es)
  moved-branch p x es s = ap (entries_under p) (entries-branch x es s) ∙ moved-first p x (child_rows es)

-- ---- labels

only_labels : (k : Path) (es : List (Path × Content)) (a : Label) → T (below_all path_cmp k es) → filter_map (λ e. only_label e.0) (below_label a es) ≡ []
only_labels k [] a h = refl
only_labels k (([], c) ∷ es) a h = absurd (never k (parts_of (is_lt (path_cmp k [])) (below_all path_cmp k es) h).0)
  where
    never : (q : Path) → T (is_lt (path_cmp q [])) → ⊥
    never [] t = t
    never (b ∷ q) t = t
only_labels k ((b ∷ q, c) ∷ es) a h = only_labels k es a (parts_of (is_lt (path_cmp k (b ∷ q))) (below_all path_cmp k es) h).1

labels_child : (a : Label) (es : List (Path × Content)) → T (is_sorted path_cmp es) → is_some (look [] es) ≡ true → filter_map (λ e. only_label e.0) (below_label a es) ≡ a ∷ []
labels_child a [] s r = absurd (cc)
labels_child a (([], c) ∷ es) s r = ap (λ z. a ∷ z) (only_labels [] es a (parts_of (below_all path_cmp [] es) (is_sorted path_cmp es) s).0)
labels_child a ((b ∷ q, c) ∷ es) s r = absurd (let none = root-first (b ∷ q) es (parts_of (below_all path_cmp (b ∷ q) es) (is_sorted path_cmp es) s).0 in let no = ap is_some none in cc)

labels_children : (es : List (Label × Tree)) → AllRooted es → filter_map (λ e. only_label e.0) (child_rows es) ≡ map (λ e. e.0) es
labels_children [] t = refl
labels_children (e ∷ es) t =
    filter_map-append (λ e. only_label e.0) (below_label e.0 (keyed.entries e.1)) (child_rows es)
    ∙ ap (λ z. z ++ filter_map (λ e. only_label e.0) (child_rows es)) (labels_child e.0 (keyed.entries e.1) (sorted-entries e.1) (ap is_some (sym (get-entries e.1 [])) ∙ t.0.root))
    ∙ ap (λ z. e.0 ∷ z) (labels_children es t.1)

-- the labels below a place are those of the edges of the tree there
pub labels-branch : (t : Tree) (p : Path) (x : Content) (es : List (Label × Tree)) → IsGood x es → branch x es ≡ sub t p → labels_at t p ≡ map (λ e. e.0) es
unfolding labels_at
labels-branch t p x es g is =
    ap (filter_map (λ e. only_label e.0)) (sym (entries-sub t p) ∙ ap keyed.entries (sym is) ∙ entries-branch x es g.sorted)
    ∙ labels_children es g.trees
