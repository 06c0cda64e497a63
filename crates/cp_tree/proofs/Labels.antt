-- The rows of a subtree: its root, and then for each label below it those of the child.
use Rattle.std.specs.Prelude.{◌≡◌, ℕ, zero, suc, ◌+◌, ◌≤◌, ◌<◌, Bool, true, false, cond, ◌&&◌, List, [], ◌∷◌, ◌++◌, length, map, is_some, refl}
use Rattle.std.proofs.Common.{sym, ap, subst, ◌∙◌, T, arith, drop, get_or, append_assoc, append-nil, length-append, drop_of_length-le}
use Rattle.std.proofs.lemmas.List.{length-map}
use Rattle.std.specs.List.{filter_map}
use Rattle.std.specs.declared.option.Option.{Option}
use Rattle.std.specs.declared.option.Option.TheVariants.{None, Some}
use Rattle.std.specs.declared.cmp.Ordering.{Ordering}
use Rattle.std.specs.declared.cmp.Ordering.TheVariants.{Less, Equal, Greater}
use Rattle.std.specs.Ordering.{is_lt, ordering_then}
use Rattle.std.specs.FinMap.Entries.{find, is_sorted, below_all}
use Rattle.std.specs.Cmp.Lexicographic.{texts_ties}
use Rattle.cp_path.specs.declared.limits.TheConstants.{LABELS_MAX}
use Rattle.cp_path.specs.Text.{text_cmp}
use Rattle.cp_path.proofs.Same.{text_eq-same}
use Rattle.cp_path.specs.PathOrder.{path_eq_equiv}
use Rattle.cp_model.specs.declared.row.Content.{Content}
use Rattle.cp_model.specs.declared.row.Content.TheVariants.{Node, Leaf}
use Rattle.cp_model.specs.declared.literal.LitEdge.{LitEdge}
use Rattle.cp_path.specs.declared.value.Value.{Value}
use Rattle.cp_model.specs.Literals.{literal_rows, rows_under, edge_rows}
use Rattle.cp_model.specs.Place.{Label, Path, path_cmp, path_eq, label_eq, child}
use Rattle.cp_model.specs.Keyed as keyed
use Rattle.cp_model.specs.Keyed.{look}
use Rattle.cp_model.specs.Subtrees.{below, is_there}
use Rattle.cp_model.specs.Tree.{Tree, IsTree}
use Rattle.cp_model.specs.History.{IsLiteral}
use Rattle.cp_model.proofs.KeyedLemmas.{same_map, get-entries}
use Rattle.cp_model.proofs.Lookups.{find-below, find-from_entries}
use Rattle.cp_model.proofs.Sorted.{parts_of, all_of, sorted-below}
use Rattle.cp_tree.specs.Branch.{branch, child_rows, sub}
use Rattle.cp_tree.specs.Rows.{only_label, labels_at}
use Rattle.cp_tree.proofs.BranchLemmas.{get_in, entries-branch, entries-sub, get-branch_child, get-branch_root, get-sub, sub-root}
use Rattle.cp_tree.proofs.Edges.{drop-one}
use Rattle.cp_tree.proofs.Leaves.{nothing-below}
use Rattle.cp_tree.proofs.ListingLemmas.{literal-below}
use Rattle.cp_tree.proofs.Tallies.{few_labels}

-- the labels of these rows that have one, in order
abbrev labels_in : List (Path × Content) → List Label
labels_in es = filter_map (λ e. only_label e.0) es

-- ---- the labels rise

-- what is less or the same, and then the same, is less
pub less_alone : (o : Ordering) → T (is_lt (ordering_then o Equal)) → T (is_lt o)
less_alone Less h = h
less_alone Equal h = h
less_alone Greater h = h

module _ {Y : Type 0} (f : Label → Y) where
  -- labels, each with what is made of it
  abbrev made : List Label → List (Label × Y)
  made ls = map (λ a. (a, f a)) ls

  labels_above : (a : Label) (es : List (Path × Content)) → T (below_all path_cmp (a ∷ []) es) → T (below_all text_cmp a (made (labels_in es)))
  labels_above a [] h = tt
  labels_above a (([], c) ∷ es) h = labels_above a es (parts_of (is_lt (path_cmp (a ∷ []) [])) (below_all path_cmp (a ∷ []) es) h).1
  labels_above a ((b ∷ [], c) ∷ es) h =
      let p = parts_of (is_lt (path_cmp (a ∷ []) (b ∷ []))) (below_all path_cmp (a ∷ []) es) h in
      all_of _ _ (less_alone (text_cmp a b) p.0) (labels_above a es p.1)
  labels_above a ((b ∷ d ∷ q, c) ∷ es) h = labels_above a es (parts_of (is_lt (path_cmp (a ∷ []) (b ∷ d ∷ q))) (below_all path_cmp (a ∷ []) es) h).1

  labels_rise : (es : List (Path × Content)) → T (is_sorted path_cmp es) → T (is_sorted text_cmp (made (labels_in es)))
  labels_rise [] s = tt
  labels_rise (([], c) ∷ es) s = labels_rise es (parts_of (below_all path_cmp [] es) (is_sorted path_cmp es) s).1
  labels_rise ((b ∷ [], c) ∷ es) s =
      let p = parts_of (below_all path_cmp (b ∷ []) es) (is_sorted path_cmp es) s in
      all_of _ _ (labels_above b es p.0) (labels_rise es p.1)
  labels_rise ((b ∷ d ∷ q, c) ∷ es) s = labels_rise es (parts_of (below_all path_cmp (b ∷ d ∷ q) es) (is_sorted path_cmp es) s).1

  -- a label is among them where a row stands at it
  label_found : (a : Label) (es : List (Path × Content)) → find text_cmp a (made (labels_in es)) ≡ cond (is_some (look (a ∷ []) es)) (Some (f a)) None
  label_found a [] = refl
  label_found a (([], c) ∷ es) = label_found a es
  label_found a ((b ∷ [], c) ∷ es) =
      elim (label_eq a b) as (λ t. label_eq a b ≡ t → find text_cmp a (made (labels_in ((b ∷ [], c) ∷ es))) ≡ cond (is_some (cond (t && true) (Some c) (look (a ∷ []) es))) (Some (f a)) None) [
        | true ↦ λ t. ap (λ u. cond u (Some (f b)) (find text_cmp a (made (labels_in es)))) (sym (texts_ties a b) ∙ t) ∙ ap (λ x. Some (f x)) (sym (text_eq-same a b t))
        | false ↦ λ t. ap (λ u. cond u (Some (f b)) (find text_cmp a (made (labels_in es)))) (sym (texts_ties a b) ∙ t) ∙ label_found a es
      ] refl
  label_found a ((b ∷ d ∷ q, c) ∷ es) =
      elim (label_eq a b) as (λ t. find text_cmp a (made (labels_in es)) ≡ cond (is_some (cond (t && false) (Some c) (look (a ∷ []) es))) (Some (f a)) None) [ true ↦ label_found a es | false ↦ label_found a es ]

-- a row stands at each label
label_there : (es : List (Path × Content)) (i : ℕ) (a : Label) (rest : List Label) → drop i (labels_in es) ≡ a ∷ rest → is_some (look (a ∷ []) es) ≡ true
label_there es i a rest e = by es i e
  where
    more : (t : Bool) (c : Content) (o : Option Content) → is_some o ≡ true → is_some (cond t (Some c) o) ≡ true
    more true c o h = refl
    more false c o h = h

    by : (es : List (Path × Content)) (i : ℕ) → drop i (labels_in es) ≡ a ∷ rest → is_some (look (a ∷ []) es) ≡ true
    by [] zero k = absurd (cc)
    by [] (suc i) k = absurd (cc)
    by (([], c) ∷ es) i k = by es i k
    by ((b ∷ [], c) ∷ es) zero k =
        let same : b ≡ a = cc in
        ap (λ x. is_some (cond (path_eq (a ∷ []) (x ∷ [])) (Some c) (look (a ∷ []) es))) same
        ∙ ap (λ t. is_some (cond t (Some c) (look (a ∷ []) es))) (path_eq_equiv.refl (a ∷ []))
    by ((b ∷ [], c) ∷ es) (suc i) k = more (path_eq (a ∷ []) (b ∷ [])) c (look (a ∷ []) es) (by es i k)
    by ((b ∷ d ∷ q, c) ∷ es) i k = more (path_eq (a ∷ []) (b ∷ d ∷ q)) c (look (a ∷ []) es) (by es i k)

-- the rows of edges and of others
pub edge_rows-append : (es fs : List LitEdge) → edge_rows (es ++ fs) ≡ edge_rows es ++ edge_rows fs
edge_rows-append [] fs = refl
edge_rows-append (e ∷ es) fs = ap (λ z. rows_under e.label (literal_rows e.tree) ++ z) (edge_rows-append es fs) ∙ sym (append_assoc (rows_under e.label (literal_rows e.tree)) (edge_rows es) (edge_rows fs))

-- the label at an index, and those after it
pub label_at : (ls listed labels : List Label) (i : ℕ) (a : Label) → ls ≡ listed → listed ≡ labels → i < length ls → a ≡ get_or ls i a → drop i labels ≡ a ∷ drop (i + 1) ls
label_at ls listed labels i a is all lt at = ap (drop i) (sym (is ∙ all)) ∙ drop-one ls i a lt at

-- ---- the rows

-- the rows of the children at these labels of p, child by child
abbrev pub label_rows : Tree → Path → List Label → List (Path × Content)
label_rows t p [] = []
label_rows t p (a ∷ ls) = rows_under a (below (child p a) t) ++ label_rows t p ls

-- the tree t, and a place p of it that is there
module _ (t : Tree) (p : Path) (tree : IsTree t) where
  abbrev edges : List Label → List (Label × Tree)
  edges ls = map (λ a. (a, sub t (child p a))) ls

  child_rows-edges : (ls : List Label) → child_rows (edges ls) ≡ label_rows t p ls
  child_rows-edges [] = refl
  child_rows-edges (a ∷ ls) =
      ap (λ es. rows_under a es ++ child_rows (edges ls)) (entries-sub t (child p a))
      ∙ ap (λ es. rows_under a (below (child p a) t) ++ es) (child_rows-edges ls)

  under : (a : Label) (q : Path) → keyed.get t (child p a ++ q) ≡ keyed.get (sub t p) (a ∷ q)
  under a q = ap (keyed.get t) (append_assoc p (a ∷ []) q) ∙ sym (get-sub t p (a ∷ q))

  child_is : (a : Label) → look (a ∷ []) (below p t) ≡ keyed.get t (child p a)
  child_is a = find-below p (a ∷ []) t

  -- what is found below a label
  found_below : (a : Label) (q : Path) (o : Option Content) → keyed.get t (child p a) ≡ o → get_in (cond (is_some o) (Some (sub t (child p a))) None) q ≡ keyed.get t (child p a ++ q)
  found_below a q None e = sym (nothing-below t (child p a) q tree.rooted e)
  found_below a q (Some c) e = get-sub t (child p a) q

  labels_sorted : T (is_sorted text_cmp (edges (labels_in (below p t))))
  labels_sorted = labels_rise (λ a. sub t (child p a)) (below p t) (sorted-below p t)

  whole : (x : Content) → keyed.get t p ≡ Some x → branch x (edges (labels_in (below p t))) ≡ sub t p
  whole x e = same_map (branch x (edges (labels_in (below p t)))) (sub t p) at
    where
      at : (q : Path) → keyed.get (branch x (edges (labels_in (below p t)))) q ≡ keyed.get (sub t p) q
      at [] = get-branch_root x (edges (labels_in (below p t))) ∙ sym e ∙ ap (keyed.get t) (sym (append-nil p)) ∙ sym (get-sub t p [])
      at (a ∷ q) =
          get-branch_child x (edges (labels_in (below p t))) a q labels_sorted
          ∙ ap (λ o. get_in o q) (label_found (λ b. sub t (child p b)) a (below p t))
          ∙ ap (λ o. get_in (cond (is_some o) (Some (sub t (child p a))) None) q) (child_is a)
          ∙ found_below a q (keyed.get t (child p a)) refl
          ∙ under a q

  -- the rows of a subtree are its root and those of its children
  pub below-labels : (x : Content) → keyed.get t p ≡ Some x → below p t ≡ ([], x) ∷ label_rows t p (labels_at t p)
  unfolding labels_at
  below-labels x e =
      sym (entries-sub t p) ∙ ap keyed.entries (sym (whole x e))
      ∙ entries-branch x (edges (labels_in (below p t))) labels_sorted
      ∙ ap (λ es. ([], x) ∷ es) (child_rows-edges (labels_in (below p t)))

  -- ---- a label a below p, with those after it

  module _ (i : ℕ) (a : Label) (rest : List Label) (split : drop i (labels_at t p) ≡ a ∷ rest) where
    -- its place is there
    pub child_there : is_there t (child p a) ≡ true
    unfolding labels_at
    child_there = ap is_some (sym (child_is a)) ∙ label_there (below p t) i a rest split

    -- and is not too deep
    pub child_fits : length p < LABELS_MAX
    child_fits = omega (arith, few_labels (child p a) (tree.places (child p a) child_there), length-append p (a ∷ []))

    -- its rows are fewer than those of its parent
    pub child_fewer : (x : Content) → keyed.get t p ≡ Some x → length (below (child p a) t) < length (below p t)
    child_fewer x e =
        let all : length (below p t) ≡ length (([], x) ∷ label_rows t p (labels_at t p)) = ap length (below-labels x e) in
        let here : length (label_rows t p (drop i (labels_at t p))) ≡ length (label_rows t p (a ∷ rest)) = ap (λ ls. length (label_rows t p ls)) split in
        omega (arith, all, here, some_rows i (labels_at t p), length-append (rows_under a (below (child p a) t)) (label_rows t p rest), length-map {B = Path × Content} (below (child p a) t) (λ r. (a ∷ r.0, r.1)))
      where
        some_rows : (i : ℕ) (ls : List Label) → length (label_rows t p (drop i ls)) ≤ length (label_rows t p ls)
        some_rows zero ls = omega arith
        some_rows (suc i) [] = omega arith
        some_rows (suc i) (b ∷ ls) = omega (arith, some_rows i ls, length-append (rows_under b (below (child p b) t)) (label_rows t p ls))

  no_labels : (v : Content) → keyed.get t p ≡ Some v → (v ≡ Node → ⊥) → labels_at t p ≡ []
  no_labels v e never = by (labels_at t p) refl
    where
      by : (ls : List Label) → labels_at t p ≡ ls → ls ≡ []
      by [] k = refl
      by (a ∷ ls) k = absurd (never (let node = tree.rooted.parents p a (child_there 0 a ls k) in let same : Some v ≡ Some Node = sym e ∙ node in cc))

  -- a leaf has no row but its own
  pub below-leaf : (v : Value) → keyed.get t p ≡ Some (Leaf v) → below p t ≡ ([], Leaf v) ∷ []
  below-leaf v e = below-labels (Leaf v) e ∙ ap (λ ls. ([], Leaf v) ∷ label_rows t p ls) (no_labels (Leaf v) e (λ k. absurd (cc)))

  -- ---- edges, one by one

  -- after an edge the rest of the labels is left
  pub edge_listed : (items new : List LitEdge) (e : LitEdge) (a : Label) (ls rest : List Label) (total : List (Path × Content)) → new ≡ items ++ e ∷ [] → e.label ≡ a → literal_rows e.tree ≡ below (child p a) t →
      ls ≡ a ∷ rest → edge_rows items ++ label_rows t p ls ≡ total → edge_rows new ++ label_rows t p rest ≡ total
  edge_listed items new e a ls rest total n b r s h =
      ap (λ es. edge_rows es ++ label_rows t p rest) n
      ∙ ap (λ es. es ++ label_rows t p rest) (edge_rows-append items (e ∷ []) ∙ ap (λ es. edge_rows items ++ es) (append-nil (rows_under e.label (literal_rows e.tree))))
      ∙ append_assoc (edge_rows items) (rows_under e.label (literal_rows e.tree)) (label_rows t p rest)
      ∙ ap (λ es. edge_rows items ++ (rows_under e.label es ++ label_rows t p rest)) r
      ∙ ap (λ c. edge_rows items ++ (rows_under c (below (child p a) t) ++ label_rows t p rest)) b
      ∙ ap (λ z. edge_rows items ++ label_rows t p z) (sym s)
      ∙ h

  -- after the last label all rows are listed
  pub edges_listed : (items : List LitEdge) (ls : List Label) (i : ℕ) → keyed.get t p ≡ Some Node → ls ≡ labels_at t p → length ls ≤ i →
      edge_rows items ++ label_rows t p (drop i ls) ≡ label_rows t p ls → ([], Node) ∷ edge_rows items ≡ below p t
  edges_listed items ls i node is past h =
      ap (λ es. ([], Node) ∷ es) (sym (append-nil (edge_rows items)) ∙ ap (λ z. edge_rows items ++ label_rows t p z) (sym (drop_of_length-le ls past)) ∙ h ∙ ap (label_rows t p) is)
      ∙ sym (below-labels Node node)

-- ---- the whole tree

-- the rows at the root are all
pub below-whole : (t : Tree) → below [] t ≡ keyed.entries t
below-whole t = sym (entries-sub t []) ∙ ap keyed.entries (sub-root t)

-- the map of a map's entries is the map
pub of_entries : (t : Tree) → keyed.from_entries (keyed.entries t) ≡ t
of_entries t = same_map (keyed.from_entries (keyed.entries t)) t (λ q. find-from_entries (keyed.entries t) q ∙ sym (get-entries t q))

-- they are those of a literal
pub entries-literal : (t : Tree) → IsTree t → IsLiteral (keyed.entries t)
entries-literal t tree = subst IsLiteral (below-whole t) (literal-below t [] tree tree.rooted.root)
