-- The edges of a literal, one by one: each has the rows of a literal, and is put beside those before it.
use Rattle.std.specs.Prelude.{◌≡◌, ℕ, ◌+◌, ◌≤◌, ◌<◌, true, false, cond, List, [], ◌∷◌, ◌++◌, length, sum_by, is_some, refl}
use Rattle.std.proofs.Common.{sym, ap, subst, ◌∙◌, T, arith, append_assoc, length-append, take, drop, get_or, add-one}
use Rattle.std.proofs.lemmas.List.{take-append-drop, take_all}
use Rattle.std.proofs.Math.Seq.{take-suc}
use Rattle.std.proofs.lemmas.List.Sums.{sum_by-append}
use Rattle.std.specs.declared.option.Option.{Option}
use Rattle.std.specs.declared.option.Option.TheVariants.{None, Some}
use Rattle.std.specs.declared.cmp.Ordering.TheVariants.{Less}
use Rattle.std.specs.Ordering.{eq_by_cmp, is_lt}
use Rattle.std.specs.Cmp.{tied_itself}
use Rattle.std.specs.FinMap.Entries.{find, is_sorted, below_all}
use Rattle.cp_path.specs.Text.{text_cmp}
use Rattle.cp_path.specs.declared.limits.TheConstants.{TEXT_MAX}
use Rattle.cp_path.specs.declared.value.Value.{Value}
use Rattle.cp_model.specs.declared.row.Content.{Content}
use Rattle.cp_model.specs.declared.row.Content.TheVariants.{Node, Leaf}
use Rattle.cp_model.specs.declared.literal.Literal.{Literal}
use Rattle.cp_model.specs.declared.literal.Literal.TheVariants as literal
use Rattle.cp_model.specs.declared.literal.LitEdge.{LitEdge}
use Rattle.cp_model.specs.Literals.{literal_rows, rows_under, edge_rows}
use Rattle.cp_model.specs.Place.{Label, Path, path_cmp, child}
use Rattle.cp_model.specs.Keyed as keyed
use Rattle.cp_model.specs.Keyed.{look}
use Rattle.cp_model.specs.Subtrees.{below, is_there, with_subtree}
use Rattle.cp_model.specs.Tree.{Tree, IsTree, text_bytes, weight_of}
use Rattle.cp_model.specs.History.{IsLiteral}
use Rattle.cp_model.proofs.Lookups.{find-from_entries}
use Rattle.cp_model.proofs.Sorted.{parts_of, all_of, path_cmp-append}
use Rattle.cp_tree.specs.Branch.{branch, child_rows}
use Rattle.cp_tree.specs.Rows.{single}
use Rattle.cp_tree.proofs.BranchLemmas.{entries-from_entries, entries-sub, get-branch_child, get-branch_root, get_in, label_total, replaced_here, sub-branch, sub-root}
use Rattle.cp_tree.proofs.Edges.{drop-one}
use Rattle.cp_tree.proofs.ListingLemmas.{literal-below}
use Rattle.cp_tree.proofs.Rising.{less_mid, put_end, turned}
use Rattle.cp_tree.proofs.Split.{find_mid}
use Rattle.cp_tree.proofs.SumsLemmas.{len_entries, weight_entries}
use Rattle.cp_tree.proofs.Labels.{edge_rows-append, less_alone}

-- the tree of a literal's rows
abbrev tree_of : Literal → Tree
tree_of l = keyed.from_entries (literal_rows l)

-- these edges, each with the tree that it leads to
abbrev edges_of : List LitEdge → List (Label × Tree)
edges_of [] = []
edges_of (e ∷ es) = (e.label, tree_of e.tree) ∷ edges_of es

edges_of-append : (es fs : List LitEdge) → edges_of (es ++ fs) ≡ edges_of es ++ edges_of fs
edges_of-append [] fs = refl
edges_of-append (e ∷ es) fs = ap (λ z. (e.label, tree_of e.tree) ∷ z) (edges_of-append es fs)

-- the text of a leaf is within its limit
pub leaf_text : (l : Literal) (v w : Value) → l ≡ literal.Leaf v → w ≡ v → IsLiteral (literal_rows l) → text_bytes (Leaf w) ≤ TEXT_MAX
leaf_text l v w is same h = h.texts [] (Leaf w) (ap (λ z. look [] (literal_rows z)) is ∙ ap (λ z. Some (Leaf z)) (sym same))

-- ---- rows that rise, in parts

below_front : (k : Path) (xs ys : List (Path × Content)) → T (below_all path_cmp k (xs ++ ys)) → T (below_all path_cmp k xs)
below_front k [] ys h = tt
below_front k (x ∷ xs) ys h = let p = parts_of (is_lt (path_cmp k x.0)) (below_all path_cmp k (xs ++ ys)) h in all_of _ _ p.0 (below_front k xs ys p.1)

below_back : (k : Path) (xs ys : List (Path × Content)) → T (below_all path_cmp k (xs ++ ys)) → T (below_all path_cmp k ys)
below_back k [] ys h = h
below_back k (x ∷ xs) ys h = below_back k xs ys (parts_of (is_lt (path_cmp k x.0)) (below_all path_cmp k (xs ++ ys)) h).1

rises_front : (xs ys : List (Path × Content)) → T (is_sorted path_cmp (xs ++ ys)) → T (is_sorted path_cmp xs)
rises_front [] ys h = tt
rises_front (x ∷ xs) ys h = let p = parts_of (below_all path_cmp x.0 (xs ++ ys)) (is_sorted path_cmp (xs ++ ys)) h in all_of _ _ (below_front x.0 xs ys p.0) (rises_front xs ys p.1)

rises_back : (xs ys : List (Path × Content)) → T (is_sorted path_cmp (xs ++ ys)) → T (is_sorted path_cmp ys)
rises_back [] ys h = h
rises_back (x ∷ xs) ys h = rises_back xs ys (parts_of (below_all path_cmp x.0 (xs ++ ys)) (is_sorted path_cmp (xs ++ ys)) h).1

below_under : (a : Label) (k : Path) (rows : List (Path × Content)) → T (below_all path_cmp (a ∷ k) (rows_under a rows)) → T (below_all path_cmp k rows)
below_under a k [] h = tt
below_under a k (e ∷ es) h =
    let p = parts_of (is_lt (path_cmp (a ∷ k) (a ∷ e.0))) (below_all path_cmp (a ∷ k) (rows_under a es)) h in
    all_of _ _ (subst (λ o. T (is_lt o)) (path_cmp-append (a ∷ []) k e.0) p.0) (below_under a k es p.1)

rises_under : (a : Label) (rows : List (Path × Content)) → T (is_sorted path_cmp (rows_under a rows)) → T (is_sorted path_cmp rows)
rises_under a [] h = tt
rises_under a (e ∷ es) h =
    let p = parts_of (below_all path_cmp (a ∷ e.0) (rows_under a es)) (is_sorted path_cmp (rows_under a es)) h in
    all_of _ _ (below_under a e.0 es p.0) (rises_under a es p.1)

-- ---- the labels rise

-- the root of a literal, and the rows below it
root_row : (l : Literal) → (c : Content) × (more : List (Path × Content)) × (literal_rows l ≡ ([], c) ∷ more)
root_row (literal.Leaf v) = (Leaf v, [], refl)
root_row (literal.Node below) = (Node, below, refl)

labels_above : (a : Label) (es : List LitEdge) → T (below_all path_cmp (a ∷ []) (edge_rows es)) → T (below_all text_cmp a (edges_of es))
labels_above a [] h = tt
labels_above a (e ∷ es) h =
    let r = root_row e.tree in
    let one = subst (λ (z : List (Path × Content)). T (below_all path_cmp (a ∷ []) (rows_under e.label z ++ edge_rows es))) r.2 h in
    let p = parts_of (is_lt (path_cmp (a ∷ []) (e.label ∷ []))) (below_all path_cmp (a ∷ []) (rows_under e.label r.1 ++ edge_rows es)) one in
    all_of _ _ (less_alone (text_cmp a e.label) p.0) (labels_above a es (below_back (a ∷ []) (rows_under e.label (literal_rows e.tree)) (edge_rows es) h))

labels_rise : (es : List LitEdge) → T (is_sorted path_cmp (edge_rows es)) → T (is_sorted text_cmp (edges_of es))
labels_rise [] h = tt
labels_rise (e ∷ es) h =
    let r = root_row e.tree in
    let one = subst (λ (z : List (Path × Content)). T (is_sorted path_cmp (rows_under e.label z ++ edge_rows es))) r.2 h in
    let p = parts_of (below_all path_cmp (e.label ∷ []) (rows_under e.label r.1 ++ edge_rows es)) (is_sorted path_cmp (rows_under e.label r.1 ++ edge_rows es)) one in
    all_of _ _ (labels_above e.label es (below_back (e.label ∷ []) (rows_under e.label r.1) (edge_rows es) p.0)) (labels_rise es (rises_back (rows_under e.label (literal_rows e.tree)) (edge_rows es) h))

-- the rows of the edges are those of the literals
same_rows : (es : List LitEdge) → T (is_sorted path_cmp (edge_rows es)) → child_rows (edges_of es) ≡ edge_rows es
same_rows [] h = refl
same_rows (e ∷ es) h =
    let front = rises_front (rows_under e.label (literal_rows e.tree)) (edge_rows es) h in
    ap (λ (z : List (Path × Content)). rows_under e.label z ++ child_rows (edges_of es)) (entries-from_entries (literal_rows e.tree) (rises_under e.label (literal_rows e.tree) front))
    ∙ ap (λ (z : List (Path × Content)). rows_under e.label (literal_rows e.tree) ++ z) (same_rows es (rises_back (rows_under e.label (literal_rows e.tree)) (edge_rows es) h))

-- ---- the tree of a node and its edges

-- the tree of a node that has these edges
pub node_tree : List LitEdge → Tree
node_tree es = branch Node (edges_of es)

-- the rows of that literal
abbrev pub node_rows : List LitEdge → List (Path × Content)
node_rows es = ([], Node) ∷ edge_rows es

rows_rise : (es : List LitEdge) → T (is_sorted path_cmp (node_rows es)) → T (is_sorted path_cmp (edge_rows es))
rows_rise es s = (parts_of (below_all path_cmp [] (edge_rows es)) (is_sorted path_cmp (edge_rows es)) s).1

-- it is made of its rows
pub node_is : (es : List LitEdge) → T (is_sorted path_cmp (node_rows es)) → node_tree es ≡ keyed.from_entries (node_rows es)
unfolding node_tree branch
node_is es s = ap (λ (z : List (Path × Content)). keyed.from_entries (([], Node) ∷ z)) (same_rows es (rows_rise es s))

entries-node : (es : List LitEdge) → T (is_sorted path_cmp (node_rows es)) → keyed.entries (node_tree es) ≡ node_rows es
entries-node es s = ap keyed.entries (node_is es s) ∙ entries-from_entries (node_rows es) s

-- its root is a node
pub node_here : (es : List LitEdge) → keyed.get (node_tree es) [] ≡ Some Node
unfolding node_tree
node_here es = get-branch_root Node (edges_of es)

-- ---- the first of some edges

found_front : (a : Label) (xs ys : List (Label × Tree)) (t : Tree) → find text_cmp a xs ≡ Some t → find text_cmp a (xs ++ ys) ≡ Some t
found_front a [] ys t h = absurd (cc)
found_front a (x ∷ xs) ys t h = elim (eq_by_cmp text_cmp a x.0) as (λ b. cond b (Some x.1) (find text_cmp a xs) ≡ Some t → cond b (Some x.1) (find text_cmp a (xs ++ ys)) ≡ Some t) [
  | true ↦ λ k. k
  | false ↦ found_front a xs ys t
] h

module _ (l r : List LitEdge) (s : T (is_sorted path_cmp (node_rows (l ++ r)))) where
  rows_split : node_rows (l ++ r) ≡ node_rows l ++ edge_rows r
  rows_split = ap (λ (z : List (Path × Content)). ([], Node) ∷ z) (edge_rows-append l r)

  front_rises : T (is_sorted path_cmp (node_rows l))
  front_rises = rises_front (node_rows l) (edge_rows r) (subst (λ (z : List (Path × Content)). T (is_sorted path_cmp z)) rows_split s)

  all_sorted : T (is_sorted text_cmp (edges_of (l ++ r)))
  all_sorted = labels_rise (l ++ r) (rows_rise (l ++ r) s)

  front_sorted : T (is_sorted text_cmp (edges_of l))
  front_sorted = labels_rise l (rows_rise l front_rises)

  -- at a label that it has it has all that the whole has
  same_edge : (a : Label) (p q : Path) → is_there (node_tree l) (a ∷ p) ≡ true → keyed.get (node_tree l) (a ∷ q) ≡ keyed.get (node_tree (l ++ r)) (a ∷ q)
  unfolding node_tree
  same_edge a p q i =
      get-branch_child Node (edges_of l) a q front_sorted
      ∙ in_edge (find text_cmp a (edges_of l)) refl (sym (ap is_some (get-branch_child Node (edges_of l) a p front_sorted)) ∙ i)
      ∙ sym (get-branch_child Node (edges_of (l ++ r)) a q all_sorted)
    where
      in_edge : (o : Option Tree) → find text_cmp a (edges_of l) ≡ o → is_some (get_in o p) ≡ true → get_in o q ≡ get_in (find text_cmp a (edges_of (l ++ r))) q
      in_edge None k h = absurd (cc)
      in_edge (Some t) k h = ap (λ o. get_in o q) (sym (ap (find text_cmp a) (edges_of-append l r) ∙ found_front a (edges_of l) (edges_of r) t k))

  -- what it has the whole has too
  kept : (q : Path) (c : Content) → keyed.get (node_tree l) q ≡ Some c → keyed.get (node_tree (l ++ r)) q ≡ Some c
  kept [] c e = node_here (l ++ r) ∙ sym (node_here l) ∙ e
  kept (a ∷ q) c e = sym (same_edge a q q (ap is_some e)) ∙ e

  there_kept : (q : Path) → is_there (node_tree l) q ≡ true → is_there (node_tree (l ++ r)) q ≡ true
  there_kept q = by (keyed.get (node_tree l) q) refl
    where
      by : (o : Option Content) → keyed.get (node_tree l) q ≡ o → is_some o ≡ true → is_there (node_tree (l ++ r)) q ≡ true
      by None k i = absurd (cc)
      by (Some c) k i = ap is_some (kept q c k)

  -- it is a tree within the limits where the whole is
  front_tree : IsTree (node_tree (l ++ r)) → IsTree (node_tree l)
  front_tree h = record {
    rooted = record { root = ap is_some (node_here l); parents = parents };
    within = record {
      nodes = omega (arith, len_entries (node_tree l), len_entries (node_tree (l ++ r)), ap length (entries-node l front_rises), ap length (entries-node (l ++ r) s ∙ rows_split), length-append (node_rows l) (edge_rows r), h.within.nodes);
      weighs = omega (arith, weight_entries (node_tree l), weight_entries (node_tree (l ++ r)), ap (sum_by weight_of) (entries-node l front_rises), ap (sum_by weight_of) (entries-node (l ++ r) s ∙ rows_split), sum_by-append weight_of (node_rows l) (edge_rows r), h.within.weighs);
    };
    places = λ p i. h.places p (there_kept p i);
    texts = λ p c e. h.texts p c (kept p c e);
    spelled = λ p c e. h.spelled p c (kept p c e);
  }
    where
      parents : (p : Path) (a : Label) → is_there (node_tree l) (child p a) ≡ true → keyed.get (node_tree l) p ≡ Some Node
      parents [] a i = node_here l
      parents (b ∷ p) a i = same_edge b (child p a) p i ∙ h.rooted.parents (b ∷ p) a (there_kept (b ∷ child p a) i)

-- ---- the edge e after the edges l and before the edges r

not_before : (l : List (Label × Tree)) (e : Label × Tree) (r : List (Label × Tree)) → T (is_sorted text_cmp (l ++ e ∷ r)) → find text_cmp e.0 l ≡ None
not_before [] e r s = refl
not_before (y ∷ l) e r s =
    let p = parts_of (below_all text_cmp y.0 (l ++ e ∷ r)) (is_sorted text_cmp (l ++ e ∷ r)) s in
    rw (turned text_cmp label_total y.0 e.0 Less (less_mid text_cmp label_total y.0 l e r p.0)) (not_before l e r p.1)

module _ (l : List LitEdge) (e : LitEdge) (r : List LitEdge) (rows : IsLiteral (node_rows (l ++ e ∷ r))) (tree : IsTree (keyed.from_entries (node_rows (l ++ e ∷ r)))) where
  whole_tree : IsTree (node_tree (l ++ e ∷ r))
  whole_tree = subst IsTree (sym (node_is (l ++ e ∷ r) rows.sorted)) tree

  edges_rise : T (is_sorted text_cmp (edges_of l ++ (e.label, tree_of e.tree) ∷ edges_of r))
  edges_rise = subst (λ (z : List (Label × Tree)). T (is_sorted text_cmp z)) (edges_of-append l (e ∷ r)) (all_sorted l (e ∷ r) rows.sorted)

  -- nothing stands at its label yet
  pub next_free : is_there (node_tree l) (e.label ∷ []) ≡ false
  unfolding node_tree
  next_free =
      ap is_some (get-branch_child Node (edges_of l) e.label [] (front_sorted l (e ∷ r) rows.sorted)
      ∙ ap (λ o. get_in o []) (not_before (edges_of l) (e.label, tree_of e.tree) (edges_of r) edges_rise))

  edge_rises : T (is_sorted path_cmp (literal_rows e.tree))
  edge_rises =
      rises_under e.label (literal_rows e.tree) (rises_front (rows_under e.label (literal_rows e.tree)) (edge_rows r) (rises_back (edge_rows l) (edge_rows (e ∷ r))
      (subst (λ (z : List (Path × Content)). T (is_sorted path_cmp z)) (edge_rows-append l (e ∷ r)) (rows_rise (l ++ e ∷ r) rows.sorted))))

  edge_entries : keyed.entries (tree_of e.tree) ≡ literal_rows e.tree
  edge_entries = entries-from_entries (literal_rows e.tree) edge_rises

  edge_found : find text_cmp e.label (edges_of (l ++ e ∷ r)) ≡ Some (tree_of e.tree)
  edge_found = ap (find text_cmp e.label) (edges_of-append l (e ∷ r)) ∙ find_mid e.label (e.label, tree_of e.tree) (edges_of r) (edges_of l) edges_rise (tied_itself label_total e.label)

  edge_there : is_there (node_tree (l ++ e ∷ r)) (e.label ∷ []) ≡ true
  unfolding node_tree
  edge_there =
      let root = root_row e.tree in
      ap is_some (get-branch_child Node (edges_of (l ++ e ∷ r)) e.label [] (all_sorted l (e ∷ r) rows.sorted) ∙ ap (λ o. get_in o []) edge_found
      ∙ find-from_entries (literal_rows e.tree) [] ∙ ap (look []) root.2)

  edge_below : below (e.label ∷ []) (node_tree (l ++ e ∷ r)) ≡ literal_rows e.tree
  unfolding node_tree
  edge_below =
      sym (entries-sub (node_tree (l ++ e ∷ r)) (e.label ∷ []))
      ∙ ap keyed.entries (sub-branch Node (edges_of (l ++ e ∷ r)) e.label [] (tree_of e.tree) (all_sorted l (e ∷ r) rows.sorted) edge_found ∙ sub-root (tree_of e.tree))
      ∙ edge_entries

  -- its rows are those of a literal
  pub next_literal : IsLiteral (literal_rows e.tree)
  next_literal = subst IsLiteral edge_below (literal-below (node_tree (l ++ e ∷ r)) (e.label ∷ []) whole_tree edge_there)

  -- with it there is one edge more
  pub next_put : with_subtree (e.label ∷ []) (literal_rows e.tree) (node_tree l) ≡ node_tree (l ++ e ∷ [])
  unfolding node_tree
  next_put =
      ap (λ (z : List (Path × Content)). with_subtree (e.label ∷ []) z (node_tree l)) (sym edge_entries)
      ∙ replaced_here Node (edges_of l) e.label (tree_of e.tree) (front_sorted l (e ∷ r) rows.sorted)
      ∙ ap (branch Node) (put_end text_cmp label_total (edges_of l) (e.label, tree_of e.tree) (edges_of r) edges_rise ∙ sym (edges_of-append l (e ∷ [])))

  -- and a tree within the limits
  pub next_fits : IsTree (with_subtree (e.label ∷ []) (literal_rows e.tree) (node_tree l))
  next_fits = subst IsTree (sym next_put) (front_tree (l ++ e ∷ []) r (subst (λ (z : List LitEdge). T (is_sorted path_cmp (node_rows z))) same rows.sorted) (subst (λ (z : List LitEdge). IsTree (node_tree z)) same whole_tree))
    where
      same : l ++ e ∷ r ≡ (l ++ e ∷ []) ++ r
      same = sym (append_assoc l (e ∷ []) r)

-- ---- the edge e at the index i of a node's edges, whose rows are `under`

-- a node without edges
pub node_alone : single Node ≡ node_tree []
unfolding node_tree branch
node_alone = refl

module _ (edges : List LitEdge) (under : List (Path × Content)) (all : edge_rows edges ≡ under) (rows : IsLiteral (([], Node) ∷ under)) (tree : IsTree (keyed.from_entries (([], Node) ∷ under))) where
  whole_rows : IsLiteral (node_rows edges)
  whole_rows = subst (λ (z : List (Path × Content)). IsLiteral (([], Node) ∷ z)) (sym all) rows

  module _ (i : ℕ) (e : LitEdge) (lt : i < length edges) (at : e ≡ get_or edges i e) where
    before : List LitEdge
    before = take i edges

    after : List LitEdge
    after = drop (i + 1) edges

    parts : edges ≡ before ++ e ∷ after
    unfolding before after
    parts = sym (take-append-drop i edges) ∙ ap (λ z. take i edges ++ z) (drop-one edges i e lt at)

    rows_in_parts : IsLiteral (node_rows (before ++ e ∷ after))
    rows_in_parts = subst (λ (z : List LitEdge). IsLiteral (node_rows z)) parts whole_rows

    tree_in_parts : IsTree (keyed.from_entries (node_rows (before ++ e ∷ after)))
    tree_in_parts = subst (λ (z : List LitEdge). IsTree (keyed.from_entries (node_rows z))) parts (subst (λ (z : List (Path × Content)). IsTree (keyed.from_entries (([], Node) ∷ z))) (sym all) tree)

    -- its rows are those of a literal
    pub edge_literal : IsLiteral (literal_rows e.tree)
    edge_literal = next_literal before e after rows_in_parts tree_in_parts

    -- the tree m of the edges before it, and the root's path
    module _ (m : Tree) (so_far : m ≡ node_tree (take i edges)) (root : Path) (top : root ≡ []) where
      -- the root is a node
      pub edge_parent : keyed.get m root ≡ Some Node
      edge_parent = ap (keyed.get m) top ∙ ap (λ z. keyed.get z []) so_far ∙ node_here (take i edges)

      -- nothing stands at the label yet
      pub edge_free : is_there m (child root e.label) ≡ false
      unfolding before
      edge_free = ap (λ z. is_there m (child z e.label)) top ∙ ap (λ z. is_there z (e.label ∷ [])) so_far ∙ next_free before e after rows_in_parts tree_in_parts

      put_same : with_subtree (child root e.label) (literal_rows e.tree) m ≡ with_subtree (e.label ∷ []) (literal_rows e.tree) (node_tree before)
      unfolding before
      put_same = ap (λ z. with_subtree (child z e.label) (literal_rows e.tree) m) top ∙ ap (with_subtree (e.label ∷ []) (literal_rows e.tree)) so_far

      -- its tree fits beside the others
      pub edge_fits : IsTree (with_subtree (child root e.label) (literal_rows e.tree) m)
      edge_fits = subst IsTree (sym put_same) (next_fits before e after rows_in_parts tree_in_parts)

      -- with it the tree has one edge more
      pub edge_put : (new : Tree) → new ≡ with_subtree (child root e.label) (literal_rows e.tree) m → new ≡ node_tree (take (i + 1) edges)
      unfolding before
      edge_put new n =
          n ∙ put_same ∙ next_put before e after rows_in_parts tree_in_parts
          ∙ ap node_tree (sym (ap (λ k. take k edges) (add-one i) ∙ take-suc edges i e lt ∙ ap (λ x. take i edges ++ x ∷ []) (sym at)))

  -- after the last edge it is whole
  pub edges_put : (i : ℕ) (m : Tree) → length edges ≤ i → m ≡ node_tree (take i edges) → m ≡ keyed.from_entries (([], Node) ∷ under)
  edges_put i m past so_far =
      so_far ∙ ap node_tree (take_all i edges past) ∙ node_is edges whole_rows.sorted ∙ ap (λ (z : List (Path × Content)). keyed.from_entries (([], Node) ∷ z)) all
