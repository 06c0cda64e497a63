-- A node that is put below another: what the slots hold before and after.
use Rattle.std.proofs.Common.{◌≡◌, ℕ, false, List, [], ◌∷◌, ◌++◌, Some, Result, Ok, Err, IfOk, OnErr, length, take, sym, ap, subst, ◌∙◌, append_assoc, arith}
use Rattle.std.proofs.Math.Seq.{take-append_seam}
use Rattle.cp_model.specs.declared.row.Content.{Content}
use Rattle.cp_model.specs.declared.row.Content.TheVariants.{Node}
use Rattle.cp_model.specs.Place.{Label, Path, child}
use Rattle.cp_model.specs.Keyed.{get, entries}
use Rattle.cp_model.specs.Subtrees.{with_subtree, is_there}
use Rattle.cp_model.specs.Tree.{Tree, IsRooted}
use Rattle.cp_tree.specs.Branch.{branch}
use Rattle.cp_tree.specs.Good.{IsGood}
use Rattle.cp_tree.specs.Sums.{sums_of, AreChildren, IsSmall}
use Rattle.cp_tree.specs.Rows.{root_entries}
use Rattle.cp_tree.proofs.BranchLemmas.{entries-branch}
use Rattle.cp_tree.proofs.FewRows.{small_edge}
use Rattle.cp_tree.proofs.GoodLemmas.{good_single, rooted-branch}
use Rattle.cp_tree.proofs.Totals.{len-branch}
use Rattle.cp_tree_arena.specs.declared.slot.Slot.{Slot}
use Rattle.cp_tree_arena.specs.declared.slot.SlotId.{SlotId}
use Rattle.cp_tree_arena.specs.Slots.{NO_SLOT}
use Rattle.cp_tree_arena.specs.Shapes.{Cell, Edges, Shape, Tip, number_of, cells, edges_of, IsFork, IsSound}
use Rattle.cp_tree_arena.specs.Cells.{Holds, Stand, IsPool}
use Rattle.cp_tree_arena.specs.Changes.{put_under, CanPut, IsPuttable}
use Rattle.cp_tree_arena.specs.Kept.{edges_at, tree_at, IsKept, IsNodeAt}
use Rattle.cp_tree_arena.specs.Building.{Added, Built}
use Rattle.cp_tree_arena.proofs.Held.{held_swapped}
use Rattle.cp_tree_arena.proofs.Pooled.{pool_at}
use Rattle.cp_tree_arena.proofs.Reading.{edges_at-is, kept_here, edges_sound}
use Rattle.cp_tree_arena.proofs.Changed.{node_at_root, put_under-is, put_under-small}

-- what was made is more
pub ok_then : {A E : Type 0} (r : Result A E) (P Q : A → Type 0) → ((y : A) → P y → Q y) → IfOk r P → IfOk r Q
ok_then (Ok y) P Q f h = f y h
ok_then (Err e) P Q f h = tt

-- what a slice is written back to
pub written : {X : Type 0} (n : ℕ) (new rest : List X) → n ≡ length new → take n (new ++ rest) ≡ new
written n new rest e = ap (λ z. take z (new ++ rest)) e ∙ take-append_seam new rest

-- the edges of sound siblings below a node
pub good_siblings : (t : Shape) → IsSound t → IsGood Node (edges_of t)
good_siblings t f = (let k = edges_sound t f in record { sorted = k.sorted; bare = tt; trees = k.rooted })

-- the entries of a leaf
pub leaf_rows : (x y : Content) → x ≡ y → entries (branch x []) ≡ root_entries y
leaf_rows x y e = entries-branch x [] tt ∙ ap root_entries e

-- what holds anyhow holds after an error
pub err_then : {A E : Type 0} (r : Result A E) (P : Type 0) → P → OnErr r P
err_then (Ok y) P h = tt
err_then (Err e) P h = h

-- siblings in a pool
module _ (slots : List Slot) (free : List SlotId) (at : ℕ) (t : Shape) (cs : List Cell) (root : at ≡ number_of t) (sound : IsSound t) (pool : IsPool slots free (cells t ++ cs)) where
  pub pool_kept : IsKept slots at
  pool_kept = kept_here slots at t [] (cs ++ pool.rest) (pool_at slots free at t cs root sound pool)

  pub pool_edges : edges_at slots at ≡ edges_of t
  pool_edges = edges_at-is slots at t [] (cs ++ pool.rest) (pool_at slots free at t cs root sound pool)

  -- a new node above them, with no siblings
  pub node_added : (x : Content) (a : Label) → IsGood x (edges_at slots at) → AreChildren ((a, tree_at slots x at) ∷ []) → (slots2 : List Slot) (free2 : List SlotId) (new : ℕ) (s : Slot) →
      s.label ≡ a → s.content ≡ x → s.links.left.number ≡ NO_SLOT → s.links.children.number ≡ at → s.links.right.number ≡ NO_SLOT → s.height ≡ 1 → s.sums ≡ sums_of ((a, tree_at slots x at) ∷ []) →
      IsPool slots2 free2 ((new, s) ∷ (cells t ++ cs)) → Added slots2 free2 new a (branch x (edges_of t)) cs
  node_added x a good small slots2 free2 new s label content left children right high sums added =
      let edges : ◌≡◌ {A = Edges} ((a, tree_at slots x at) ∷ []) ((s.label, branch s.content (edges_of t)) ∷ []) = λ i. (sym label i, branch (sym content i) (pool_edges i)) ∷ [] in
      let below : IsGood s.content (edges_of t) = subst (λ y. IsGood y (edges_of t)) (sym content) (subst (IsGood x) pool_edges good) in
      let fork : IsFork s Tip t Tip = record {
        left = left;
        children = children ∙ root;
        right = right;
        good = below;
        edges = subst AreChildren edges small;
        high = high ∙ omega arith;
        near = (omega arith, omega arith);
        sums = sums ∙ ap sums_of edges;
        low = omega (arith, high, len-branch s.content (edges_of t) below.sorted);
      } in
      record { s = s; c = t; pool = added; alone = (fork, tt, sound, tt); label = label; tree = ap (λ y. branch y (edges_of t)) content }

-- no siblings stand at the number of none
module _ (slots : List Slot) (free : List SlotId) (cs : List Cell) (pool : IsPool slots free cs) (at : ℕ) (none : at ≡ NO_SLOT) where
  no_edges : edges_at slots at ≡ []
  no_edges = pool_edges slots free at Tip cs none tt pool

  pub leaf_at : (x : Content) → IsNodeAt slots x at
  leaf_at x = record { kept = pool_kept slots free at Tip cs none tt pool; good = subst (IsGood x) (sym no_edges) (good_single x) }

  leaf_tree : (x : Content) → tree_at slots x at ≡ branch x []
  leaf_tree x = ap (branch x) no_edges

  -- a leaf that is put is within the limits where the whole is
  pub leaf_small : (m : Tree) (q p : Path) (a : Label) (x y : Content) → q ≡ child p a → x ≡ y → IsSmall (with_subtree q (root_entries y) m) → AreChildren ((a, tree_at slots x at) ∷ [])
  leaf_small m q p a x y path e s =
      let one = small_edge m p a (branch x []) (rooted-branch x [] (good_single x)) (subst IsSmall (λ i. with_subtree (path i) (sym (leaf_rows x y e) i) m) s) in
      subst (λ (z : Tree). AreChildren ((a, z) ∷ [])) (sym (leaf_tree x)) one

-- siblings, the children of a root x, with the tree m, stand besides these cells
module _ (slots : List Slot) (free : List SlotId) (at : ℕ) (x : Content) (m : Tree) (cs : List Cell) (b : Built slots free at x m cs) where
  pub built_kept : IsKept slots at
  built_kept = pool_kept slots free at b.shape cs b.root b.sound b.pool

  built_edges : edges_at slots at ≡ edges_of b.shape
  built_edges = pool_edges slots free at b.shape cs b.root b.sound b.pool

  -- their tree is read from the slots
  pub built_tree : tree_at slots x at ≡ m
  built_tree = ap (branch x) built_edges ∙ b.tree

  built_good : IsGood x (edges_at slots at)
  built_good = subst (IsGood x) (sym built_edges) b.good

  pub built_node : IsNodeAt slots x at
  built_node = record { kept = built_kept; good = built_good }

-- siblings that other slots hold in the same way, besides other cells
pub built_in : (slots : List Slot) (free : List SlotId) (at : ℕ) (x : Content) (m : Tree) (cs : List Cell) (b : Built slots free at x m cs) (slots2 : List Slot) (free2 : List SlotId) (ds : List Cell) → IsPool slots2 free2 (cells b.shape ++ ds) → Built slots2 free2 at x m ds
built_in slots free at x m cs b slots2 free2 ds pool = record { shape = b.shape; root = b.root; pool = pool; sound = b.sound; good = b.good; tree = b.tree }

-- siblings in a slice that was written back
pub built_written : (n : ℕ) (new rest : List Slot) (free : List SlotId) (at : ℕ) (x : Content) (m : Tree) (cs : List Cell) → n ≡ length new → Built new free at x m cs → Built (take n (new ++ rest)) free at x m cs
built_written n new rest free at x m cs e b = subst (λ z. Built z free at x m cs) (sym (written n new rest e)) b

-- a node that was added
module _ (slots : List Slot) (free : List SlotId) (new : ℕ) (a : Label) (n : Tree) (cs : List Cell) (added : Added slots free new a n cs) where
  added_rooted : IsRooted n
  added_rooted = subst IsRooted added.tree (rooted-branch added.s.content (edges_of added.c) added.alone.0.good)

  -- and that other slots hold in the same way, besides other cells
  pub added_in : (slots2 : List Slot) (free2 : List SlotId) (ds : List Cell) → IsPool slots2 free2 ((new, added.s) ∷ (cells added.c ++ ds)) → Added slots2 free2 new a n ds
  added_in slots2 free2 ds pool = record { s = added.s; c = added.c; pool = pool; alone = added.alone; label = added.label; tree = added.tree }

-- the node n that was added is put at a label below the place p
module _ (slots : List Slot) (free : List SlotId) (at new : ℕ) (x : Content) (m : Tree) (t : Shape) (cs : List Cell) (a : Label) (n : Tree) (p : Path) (es : List (Path × Content)) (rows : entries n ≡ es)
    (root : at ≡ number_of t) (sound : IsSound t) (g : IsGood x (edges_of t)) (tree : branch x (edges_of t) ≡ m) (added : Added slots free new a n (cells t ++ cs)) (node : get m p ≡ Some Node) where
  rooted : IsRooted n
  rooted = added_rooted slots free new a n (cells t ++ cs) added

  node_there : get (branch x (edges_of t)) p ≡ Some Node
  node_there = ap (λ z. get z p) tree ∙ node

  is_node : x ≡ Node
  is_node = node_at_root x (edges_of t) g p node_there

  module _ (not_there : is_there m (child p a) ≡ false) (small : IsSmall (with_subtree (child p a) es m)) where
    can_put : CanPut slots at new p added.s added.c t [] (cs ++ added.pool.rest)
    can_put =
        let whole : with_subtree (child p a) es m ≡ with_subtree (child p a) (entries n) (branch x (edges_of t)) = λ i. with_subtree (child p a) (sym rows i) (sym tree i) in
        let edges : put_under p a n (edges_of t) ≡ put_under p added.s.label (branch added.s.content (edges_of added.c)) (edges_of t) = λ i. put_under p (sym added.label i) (sym added.tree i) (edges_of t) in
        record {
          holds = held_swapped slots [] ((new, added.s) ∷ cells added.c) (cells t) (cs ++ added.pool.rest) (subst (Holds slots) (ap (λ z. (new, added.s) ∷ z) (simp append_assoc)) added.pool.holds);
          root = root;
          sound = sound;
          alone = added.alone;
          node = subst (λ z. get (branch z (edges_of t)) p ≡ Some Node) is_node node_there;
          free = ap (λ z. is_there (branch Node (edges_of t)) (child p z)) added.label ∙ ap (λ z. is_there (branch z (edges_of t)) (child p a)) (sym is_node) ∙ ap (λ z. is_there z (child p a)) tree ∙ not_there;
          small = subst AreChildren edges (put_under-small x (edges_of t) g a n rooted p node_there (subst IsSmall whole small));
        }

    pub puttable : IsPuttable slots at new p
    puttable = record { s = added.s; c = added.c; t = t; xs = []; ys = cs ++ added.pool.rest; can = can_put }

  put_built : (slots2 : List Slot) (r : ℕ) (h : ℕ → Type 0) → Stand slots2 r (put_under p added.s.label (branch added.s.content (edges_of added.c)) (edges_of t)) h [] (cs ++ added.pool.rest) →
      Built slots2 free r x (with_subtree (child p a) es m) cs
  put_built slots2 r h stand =
      let now = put_under-is x (edges_of t) g a n rooted p node_there in
      let edges : edges_of stand.shape ≡ put_under p a n (edges_of t) = stand.edges ∙ (λ i. put_under p (added.label i) (added.tree i) (edges_of t)) in
      record {
        shape = stand.shape;
        root = stand.is.root;
        pool = record { rest = added.pool.rest; numbers = added.pool.numbers; holds = subst (Holds slots2) (sym (append_assoc (cells stand.shape) cs added.pool.rest)) stand.is.holds };
        sound = stand.is.sound;
        good = subst (IsGood x) (sym edges) now.good;
        tree = ap (branch x) edges ∙ now.is ∙ (λ i. with_subtree (child p a) (rows i) (tree i));
      }

  -- the siblings after it
  pub put_through : (not_there : is_there m (child p a) ≡ false) (small : IsSmall (with_subtree (child p a) es m)) (slots2 : List Slot) (r : ℕ) (h : Shape → ℕ → Type 0) →
      ((s : Slot) (c t2 : Shape) (xs ys : List Cell) → CanPut slots at new p s c t2 xs ys → Stand slots2 r (put_under p s.label (branch s.content (edges_of c)) (edges_of t2)) (λ y. h t2 y) xs ys) → Built slots2 free r x (with_subtree (child p a) es m) cs
  put_through not_there small slots2 r h put = put_built slots2 r _ (put added.s added.c t [] (cs ++ added.pool.rest) (can_put not_there small))

-- and where the siblings stood in the slots before
module _ (slots : List Slot) (free : List SlotId) (at : ℕ) (x : Content) (m : Tree) (view : tree_at slots x at ≡ m) (t : Shape) (cs : List Cell) (root : at ≡ number_of t) (sound : IsSound t) (g : IsGood x (edges_of t)) (pool : IsPool slots free (cells t ++ cs))
    (q p : Path) (a : Label) (path : q ≡ child p a) (n : Tree) (es : List (Path × Content)) (rows : entries n ≡ es) (slots2 : List Slot) (free2 : List SlotId) (new : ℕ) (added : Added slots2 free2 new a n (cells t ++ cs)) (node : get m p ≡ Some Node) where
  pub held_tree : branch x (edges_of t) ≡ m
  held_tree = ap (branch x) (sym (pool_edges slots free at t cs root sound pool)) ∙ view

  module _ (not_there : is_there m q ≡ false) (small : IsSmall (with_subtree q es m)) where
    pub put_may : IsPuttable slots2 at new p
    put_may = puttable slots2 free2 at new x m t cs a n p es rows root sound g held_tree added node (ap (is_there m) (sym path) ∙ not_there) (subst (λ z. IsSmall (with_subtree z es m)) path small)

    pub put_done : (slots3 : List Slot) (r : ℕ) (h : Shape → ℕ → Type 0) →
        ((s : Slot) (c t2 : Shape) (xs ys : List Cell) → CanPut slots2 at new p s c t2 xs ys → Stand slots3 r (put_under p s.label (branch s.content (edges_of c)) (edges_of t2)) (λ y. h t2 y) xs ys) → Built slots3 free2 r x (with_subtree q es m) cs
    put_done slots3 r h put =
        subst (λ z. Built slots3 free2 r x (with_subtree z es m) cs) (sym path)
        (put_through slots2 free2 at new x m t cs a n p es rows root sound g held_tree added node (ap (is_there m) (sym path) ∙ not_there) (subst (λ z. IsSmall (with_subtree z es m)) path small) slots3 r h put)
