-- A tree as what stands at its root and the edges below it.
use Rattle.std.specs.Prelude.{◌≡◌, Bool, true, false, cond, not, ◌&&◌, List, [], ◌∷◌, ◌++◌, refl}
use Rattle.std.proofs.Common.{sym, ap, subst, ◌∙◌, T}
use Rattle.std.specs.declared.option.Option.{Option}
use Rattle.std.specs.declared.option.Option.TheVariants.{None, Some}
use Rattle.std.specs.declared.cmp.Ordering.{Ordering}
use Rattle.std.specs.declared.cmp.Ordering.TheVariants.{Less, Equal, Greater}
use Rattle.std.specs.Ordering.{eq_by_cmp, is_eq, is_lt, ordering_then}
use Rattle.std.specs.Cmp.{IsTotalOrder, tied_itself}
use Rattle.std.specs.Cmp.Lexicographic.{nat_list_cmp_total, nat_list_eq_equiv, texts_ties}
use Rattle.std.specs.FinMap.{IsAntisymmetric, nat_cmp-IsAntisymmetric, slice_cmp-IsAntisymmetric}
use Rattle.std.specs.FinMap.Entries.{find, put, is_sorted, below_all, is_sorted-put, is_sorted-where_key, find-put, find-where_key, same_entries}
use Rattle.cp_path.specs.Text.{text_cmp}
use Rattle.cp_model.specs.Place.{Label, Path, path_cmp, path_eq, label_eq, strip, or_else}
use Rattle.cp_path.proofs.Same.{path_same, text_eq-same}
use Rattle.cp_path.specs.PathOrder.{path_total}
use Rattle.cp_model.proofs.KeyedLemmas.{get-entries, same_map, look-find}
use Rattle.cp_model.specs.Keyed as keyed
use Rattle.cp_model.specs.Keyed.{look, Keyed}
use Rattle.cp_model.specs.Subtrees.{below, without, with_subtree}
use Rattle.cp_model.specs.Laws.{at_rest_or}
use Rattle.cp_model.proofs.Lookups.{find-below, find-from_entries, get-without, get-replaced, or_none}
use Rattle.cp_model.proofs.Sorted.{parts_of, all_of, sorted-entries}
use Rattle.cp_tree.specs.Branch.{below_label, child_rows, branch, sub, without_child}

-- labels are ordered by their bytes
pub label_total : IsTotalOrder text_cmp
label_total = nat_list_cmp_total

-- labels that tie are the same
pub label_same : IsAntisymmetric text_cmp
label_same = slice_cmp-IsAntisymmetric nat_cmp-IsAntisymmetric

less_not_eq : (o : Ordering) → T (is_lt o) → is_eq o ≡ false
less_not_eq Less h = refl
less_not_eq Equal h = absurd h
less_not_eq Greater h = absurd h

then_less : (o q : Ordering) → T (is_lt o) → T (is_lt (ordering_then o q))
then_less Less q h = tt
then_less Equal q h = absurd h
then_less Greater q h = absurd h

module _ {X : Type 0} where
  -- what a tree, if there is one, has at a path
  abbrev pub get_in : Option (Keyed X) → Path → Option X
  get_in None s = None
  get_in (Some m) s = keyed.get m s

  -- rows that rise are the entries of the map that they make
  pub entries-from_entries : (es : List (Path × X)) → T (is_sorted path_cmp es) → keyed.entries (keyed.from_entries es) ≡ es
  entries-from_entries es s =
      let m : Keyed X = keyed.from_entries es in
      same_entries path_cmp path_total path_same (keyed.entries m) es (sorted-entries m) s
      (λ q. sym (look-find q (keyed.entries m)) ∙ sym (get-entries m q) ∙ find-from_entries es q ∙ look-find q es)

  -- ---- the order of the rows

  below_append : (k : Path) (es fs : List (Path × X)) → T (below_all path_cmp k es) → T (below_all path_cmp k fs) → T (below_all path_cmp k (es ++ fs))
  below_append k [] fs g h = h
  below_append k (e ∷ es) fs g h = let p = parts_of (is_lt (path_cmp k e.0)) (below_all path_cmp k es) g in all_of _ _ p.0 (below_append k es fs p.1 h)

  below_all_below_label : (a : Label) (p : Path) (rs : List (Path × X)) → T (below_all path_cmp p rs) → T (below_all path_cmp (a ∷ p) (below_label a rs))
  below_all_below_label a p [] h = tt
  below_all_below_label a p (r ∷ rs) h =
      let q = parts_of (is_lt (path_cmp p r.0)) (below_all path_cmp p rs) h in
      all_of _ _ (subst (λ o. T (is_lt (ordering_then o (path_cmp p r.0)))) (sym (tied_itself label_total a)) q.0) (below_all_below_label a p rs q.1)

  far_one : (a b : Label) (p : Path) (rs : List (Path × X)) → T (is_lt (text_cmp a b)) → T (below_all path_cmp (a ∷ p) (below_label b rs))
  far_one a b p [] h = tt
  far_one a b p (r ∷ rs) h = all_of _ _ (then_less (text_cmp a b) _ h) (far_one a b p rs h)

  far : (a : Label) (p : Path) (es : List (Label × Keyed X)) → T (below_all text_cmp a es) → T (below_all path_cmp (a ∷ p) (child_rows es))
  far a p [] h = tt
  far a p (e ∷ es) h =
      let q = parts_of (is_lt (text_cmp a e.0)) (below_all text_cmp a es) h in
      below_append (a ∷ p) (below_label e.0 (keyed.entries e.1)) (child_rows es) (far_one a e.0 p (keyed.entries e.1) q.0) (far a p es q.1)

  sorted_below_label : (a : Label) (rs fs : List (Path × X)) → T (is_sorted path_cmp rs) → ((p : Path) → T (below_all path_cmp (a ∷ p) fs)) → T (is_sorted path_cmp fs) → T (is_sorted path_cmp (below_label a rs ++ fs))
  sorted_below_label a [] fs s f t = t
  sorted_below_label a (r ∷ rs) fs s f t =
      let q = parts_of (below_all path_cmp r.0 rs) (is_sorted path_cmp rs) s in
      all_of _ _ (below_append (a ∷ r.0) (below_label a rs) fs (below_all_below_label a r.0 rs q.0) (f r.0)) (sorted_below_label a rs fs q.1 f t)

  -- the rows below a root rise where its labels do
  pub sorted-child_rows : (es : List (Label × Keyed X)) → T (is_sorted text_cmp es) → T (is_sorted path_cmp (child_rows es))
  sorted-child_rows [] s = tt
  sorted-child_rows (e ∷ es) s =
      let q = parts_of (below_all text_cmp e.0 es) (is_sorted text_cmp es) s in
      sorted_below_label e.0 (keyed.entries e.1) (child_rows es) (sorted-entries e.1) (λ p. far e.0 p es q.0) (sorted-child_rows es q.1)

  root_below : (a : Label) (rs fs : List (Path × X)) → T (below_all path_cmp [] fs) → T (below_all path_cmp [] (below_label a rs ++ fs))
  root_below a [] fs h = h
  root_below a (r ∷ rs) fs h = root_below a rs fs h

  root_below_all : (es : List (Label × Keyed X)) → T (below_all path_cmp [] (child_rows es))
  root_below_all [] = tt
  root_below_all (e ∷ es) = root_below e.0 (keyed.entries e.1) (child_rows es) (root_below_all es)

  -- the rows of a tree: its root, and then those below it
  pub entries-branch : (x : X) (es : List (Label × Keyed X)) → T (is_sorted text_cmp es) → keyed.entries (branch x es) ≡ ([], x) ∷ child_rows es
  unfolding branch
  entries-branch x es s = entries-from_entries (([], x) ∷ child_rows es) (all_of _ _ (root_below_all es) (sorted-child_rows es s))

  -- ---- look-ups

  look_other : (a b : Label) (q : Path) (rs fs : List (Path × X)) → label_eq a b ≡ false → look (a ∷ q) (below_label b rs ++ fs) ≡ look (a ∷ q) fs
  look_other a b q [] fs h = refl
  look_other a b q (r ∷ rs) fs h = ap (λ t. cond (t && path_eq q r.0) (Some r.1) (look (a ∷ q) (below_label b rs ++ fs))) h ∙ look_other a b q rs fs h

  look_same : (a : Label) (q : Path) (rs fs : List (Path × X)) → look (a ∷ q) (below_label a rs ++ fs) ≡ or_else (look q rs) (look (a ∷ q) fs)
  look_same a q [] fs = refl
  look_same a q (r ∷ rs) fs =
      ap (λ t. cond (t && path_eq q r.0) (Some r.1) (look (a ∷ q) (below_label a rs ++ fs))) (nat_list_eq_equiv.refl a)
      ∙ elim (path_eq q r.0) as (λ b. cond b (Some r.1) (look (a ∷ q) (below_label a rs ++ fs)) ≡ or_else (cond b (Some r.1) (look q rs)) (look (a ∷ q) fs)) [ true ↦ refl | false ↦ look_same a q rs fs ]

  look_far : (a : Label) (q : Path) (es : List (Label × Keyed X)) → T (below_all text_cmp a es) → look (a ∷ q) (child_rows es) ≡ None
  look_far a q [] h = refl
  look_far a q (e ∷ es) h =
      let p = parts_of (is_lt (text_cmp a e.0)) (below_all text_cmp a es) h in
      look_other a e.0 q (keyed.entries e.1) (child_rows es) (texts_ties a e.0 ∙ less_not_eq (text_cmp a e.0) p.0) ∙ look_far a q es p.1

  look_child_rows : (a : Label) (q : Path) (es : List (Label × Keyed X)) → T (is_sorted text_cmp es) → look (a ∷ q) (child_rows es) ≡ get_in (find text_cmp a es) q
  look_child_rows a q [] s = refl
  look_child_rows a q (e ∷ es) s =
      let p = parts_of (below_all text_cmp e.0 es) (is_sorted text_cmp es) s in
      elim (eq_by_cmp text_cmp a e.0) as (λ t. eq_by_cmp text_cmp a e.0 ≡ t → look (a ∷ q) (below_label e.0 (keyed.entries e.1) ++ child_rows es) ≡ get_in (cond t (Some e.1) (find text_cmp a es)) q) [
        | false ↦ λ t. look_other a e.0 q (keyed.entries e.1) (child_rows es) (texts_ties a e.0 ∙ t) ∙ look_child_rows a q es p.1
        | true ↦ λ t.
            let same_label : a ≡ e.0 = text_eq-same a e.0 (texts_ties a e.0 ∙ t) in
            ap (λ b. look (a ∷ q) (below_label b (keyed.entries e.1) ++ child_rows es)) (sym same_label)
            ∙ look_same a q (keyed.entries e.1) (child_rows es)
            ∙ ap (or_else (look q (keyed.entries e.1))) (look_far a q es (subst (λ b. T (below_all text_cmp b es)) (sym same_label) p.0))
            ∙ or_none (look q (keyed.entries e.1))
            ∙ sym (get-entries e.1 q)
      ] refl

  -- at the root is its content
  pub get-branch_root : (x : X) (es : List (Label × Keyed X)) → keyed.get (branch x es) [] ≡ Some x
  unfolding branch
  get-branch_root x es = find-from_entries (([], x) ∷ child_rows es) []

  -- below a label is what the tree of its edge has
  pub get-branch_child : (x : X) (es : List (Label × Keyed X)) (a : Label) (q : Path) → T (is_sorted text_cmp es) → keyed.get (branch x es) (a ∷ q) ≡ get_in (find text_cmp a es) q
  unfolding branch
  get-branch_child x es a q s = find-from_entries (([], x) ∷ child_rows es) (a ∷ q) ∙ look_child_rows a q es s

  -- ---- subtrees

  -- the rows of a subtree are those below its place
  pub entries-sub : (m : Keyed X) (p : Path) → keyed.entries (sub m p) ≡ below p m
  unfolding sub keyed.entries
  entries-sub m p = refl

  -- what the subtree at p has at s, the tree has at p and s
  pub get-sub : (m : Keyed X) (p s : Path) → keyed.get (sub m p) s ≡ keyed.get m (p ++ s)
  get-sub m p s = get-entries (sub m p) s ∙ ap (look s) (entries-sub m p) ∙ find-below p s m

  -- the subtree at the root is the tree
  pub sub-root : (m : Keyed X) → sub m [] ≡ m
  sub-root m = same_map (sub m []) m (λ q. get-sub m [] q)

  -- the subtree below a label is one of the tree of its edge
  pub sub-branch : (x : X) (es : List (Label × Keyed X)) (a : Label) (p : Path) (n : Keyed X) → T (is_sorted text_cmp es) → find text_cmp a es ≡ Some n → sub (branch x es) (a ∷ p) ≡ sub n p
  sub-branch x es a p n s is = same_map (sub (branch x es) (a ∷ p)) (sub n p) (λ q. get-sub (branch x es) (a ∷ p) q ∙ get-branch_child x es a (p ++ q) s ∙ ap (λ o. get_in o (p ++ q)) is ∙ sym (get-sub n p q))

  -- ---- changes

  -- a new tree at an edge, in the place of an old one or beside it
  pub replaced_child : (x : X) (es : List (Label × Keyed X)) (a : Label) (p : Path) (rows : List (Path × X)) (n : Keyed X) → T (is_sorted text_cmp es) →
      ((s : Path) → keyed.get n s ≡ at_rest_or (strip p s) (λ z. look z rows) (get_in (find text_cmp a es) s)) → with_subtree (a ∷ p) rows (branch x es) ≡ branch x (put text_cmp a n es)
  replaced_child x es a p rows n s is = same_map (with_subtree (a ∷ p) rows (branch x es)) (branch x (put text_cmp a n es)) at
    where
      flip : (b : Label) (t : Bool) → label_eq a b ≡ t → eq_by_cmp text_cmp b a ≡ t
      flip b t e = sym (texts_ties b a) ∙ nat_list_eq_equiv.symm b a ∙ e

      at : (q : Path) → keyed.get (with_subtree (a ∷ p) rows (branch x es)) q ≡ keyed.get (branch x (put text_cmp a n es)) q
      at [] = get-replaced (a ∷ p) rows (branch x es) [] ∙ get-branch_root x es ∙ sym (get-branch_root x (put text_cmp a n es))
      at (b ∷ q) =
          get-replaced (a ∷ p) rows (branch x es) (b ∷ q)
          ∙ ap (at_rest_or (strip (a ∷ p) (b ∷ q)) (λ z. look z rows)) (get-branch_child x es b q s)
          ∙ elim (label_eq a b) as (λ t. label_eq a b ≡ t → at_rest_or (cond t (strip p q) None) (λ z. look z rows) (get_in (find text_cmp b es) q) ≡ get_in (cond (eq_by_cmp text_cmp b a) (Some n) (find text_cmp b es)) q) [
            | false ↦ λ t. ap (λ u. get_in (cond u (Some n) (find text_cmp b es)) q) (sym (flip b false t))
            | true ↦ λ t.
                ap (λ c. at_rest_or (strip p q) (λ z. look z rows) (get_in (find text_cmp c es) q)) (sym (text_eq-same a b t)) ∙ sym (is q)
                ∙ ap (λ u. get_in (cond u (Some n) (find text_cmp b es)) q) (sym (flip b true t))
          ] refl
          ∙ ap (λ f. get_in f q) (sym (find-put text_cmp label_total b a n es))
          ∙ sym (get-branch_child x (put text_cmp a n es) b q (is_sorted-put text_cmp label_total a n es s))

  -- to drop a subtree is to replace it by nothing
  pub without-replaced : (p : Path) (m : Keyed X) → with_subtree p [] m ≡ without p m
  without-replaced p m = same_map (with_subtree p [] m) (without p m) (λ r. get-replaced p [] m r ∙ sym (get-without p m r))

  -- a tree at an edge changed by dropping what is below a place of it
  pub without_below : (x : X) (es : List (Label × Keyed X)) (a : Label) (p : Path) (n : Keyed X) → T (is_sorted text_cmp es) → find text_cmp a es ≡ Some n → without (a ∷ p) (branch x es) ≡ branch x (put text_cmp a (without p n) es)
  without_below x es a p n s is =
      sym (without-replaced (a ∷ p) (branch x es))
      ∙ replaced_child x es a p [] (without p n) s (λ z. get-without p n z ∙ ap (λ o. at_rest_or (strip p z) (λ _. None) (get_in o z)) (sym is))

  -- a tree at an edge changed by replacing what is below a place of it
  pub replaced_below : (x : X) (es : List (Label × Keyed X)) (a : Label) (p : Path) (rows : List (Path × X)) (n : Keyed X) → T (is_sorted text_cmp es) → find text_cmp a es ≡ Some n →
      with_subtree (a ∷ p) rows (branch x es) ≡ branch x (put text_cmp a (with_subtree p rows n) es)
  replaced_below x es a p rows n s is = replaced_child x es a p rows (with_subtree p rows n) s (λ z. get-replaced p rows n z ∙ ap (λ o. at_rest_or (strip p z) (λ y. look y rows) (get_in o z)) (sym is))

  -- a tree at an edge replaced, or one added
  pub replaced_here : (x : X) (es : List (Label × Keyed X)) (a : Label) (n : Keyed X) → T (is_sorted text_cmp es) → with_subtree (a ∷ []) (keyed.entries n) (branch x es) ≡ branch x (put text_cmp a n es)
  replaced_here x es a n s = replaced_child x es a [] (keyed.entries n) n s (λ z. get-entries n z)

  find_without : (a b : Label) (es : List (Label × Keyed X)) → find text_cmp b (without_child a es) ≡ cond (eq_by_cmp text_cmp a b) None (find text_cmp b es)
  find_without a b es = find-where_key text_cmp (λ c. not (eq_by_cmp text_cmp a c)) b (λ c t. ap (λ z. not (eq_by_cmp text_cmp a z)) (sym (label_same b c t))) es ∙ turn (eq_by_cmp text_cmp a b)
    where
      turn : (t : Bool) → cond (not t) (find text_cmp b es) None ≡ cond t None (find text_cmp b es)
      turn true = refl
      turn false = refl

  -- an edge dropped
  pub without_here : (x : X) (es : List (Label × Keyed X)) (a : Label) → T (is_sorted text_cmp es) → without (a ∷ []) (branch x es) ≡ branch x (without_child a es)
  without_here x es a s = same_map (without (a ∷ []) (branch x es)) (branch x (without_child a es)) at
    where
      at : (q : Path) → keyed.get (without (a ∷ []) (branch x es)) q ≡ keyed.get (branch x (without_child a es)) q
      at [] = get-without (a ∷ []) (branch x es) [] ∙ get-branch_root x es ∙ sym (get-branch_root x (without_child a es))
      at (b ∷ q) =
          get-without (a ∷ []) (branch x es) (b ∷ q)
          ∙ ap (at_rest_or (strip (a ∷ []) (b ∷ q)) (λ _. None)) (get-branch_child x es b q s)
          ∙ elim (label_eq a b) as (λ t. label_eq a b ≡ t → at_rest_or (cond t (Some q) None) (λ _. None) (get_in (find text_cmp b es) q) ≡ get_in (cond (eq_by_cmp text_cmp a b) None (find text_cmp b es)) q) [
            | false ↦ λ t. ap (λ u. get_in (cond u None (find text_cmp b es)) q) (sym (sym (texts_ties a b) ∙ t))
            | true ↦ λ t. ap (λ u. get_in (cond u None (find text_cmp b es)) q) (sym (sym (texts_ties a b) ∙ t))
          ] refl
          ∙ ap (λ f. get_in f q) (sym (find_without a b es))
          ∙ sym (get-branch_child x (without_child a es) b q (is_sorted-where_key text_cmp (λ c. not (eq_by_cmp text_cmp a c)) es s))
