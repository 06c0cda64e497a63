-- A subtree taken out, and another put in its place.
use Rattle.std.proofs.Common.{◌≡◌, ℕ, true, false, List, [], ◌∷◌, ◌++◌, Option, Some, None, length, sym, ap, subst, ◌∙◌, refl, arith, length-append}
use Rattle.std.specs.Prelude.{is_some}
use Rattle.cp_model.specs.declared.row.Content.{Content}
use Rattle.cp_model.specs.declared.row.Content.TheVariants.{Node}
use Rattle.cp_model.specs.Place.{Label, Path, child, strip}
use Rattle.cp_model.specs.Keyed.{get, entries, look}
use Rattle.cp_model.specs.Subtrees.{with_subtree, without, is_there}
use Rattle.cp_model.specs.Laws.{at_rest_or}
use Rattle.cp_model.specs.Tree.{Tree, IsTree}
use Rattle.cp_model.proofs.Kept.{tree-without}
use Rattle.cp_model.proofs.KeyedLemmas.{same_map}
use Rattle.cp_model.proofs.Lookups.{get-replaced, get-without}
use Rattle.cp_model.proofs.Strips.{strip_is, strip-itself}
use Rattle.cp_tree.specs.Branch.{branch}
use Rattle.cp_tree.specs.Good.{IsGood}
use Rattle.cp_tree.specs.Sums.{IsSmall}
use Rattle.cp_tree.proofs.Small.{small_tree}
use Rattle.cp_tree_arena.specs.declared.slot.Slot.{Slot}
use Rattle.cp_tree_arena.specs.declared.slot.SlotId.{SlotId}
use Rattle.cp_tree_arena.specs.Shapes.{Cell, Shape, number_of, cells, edges_of, IsSound}
use Rattle.cp_tree_arena.specs.Cells.{Stand, IsPool}
use Rattle.cp_tree_arena.specs.Changes.{put_under, cut_under, CanPut, IsPuttable, CanCut, IsCuttable, Cut}
use Rattle.cp_tree_arena.specs.Building.{Added}
use Rattle.cp_tree_arena.proofs.Holding.{pool_turned, pool_last}
use Rattle.cp_tree_arena.proofs.Placing.{added_in, puttable, put_through}
use Rattle.cp_tree_arena.proofs.Taking.{IsOut, cuttable, cut_done}

module _ (m : Tree) (q : Path) (es : List (Path × Content)) where
  -- what is put where a subtree was taken out is put in its place
  put_over : with_subtree q es (without q m) ≡ with_subtree q es m
  put_over = same_map (with_subtree q es (without q m)) (with_subtree q es m) (λ r. get-replaced q es (without q m) r ∙ by r (strip q r) refl ∙ sym (get-replaced q es m r))
    where
      by : (r : Path) (o : Option Path) → strip q r ≡ o → at_rest_or (strip q r) (λ s. look s es) (get (without q m) r) ≡ at_rest_or (strip q r) (λ s. look s es) (get m r)
      by r (Some s) e = rw e refl
      by r None e = (let kept : get (without q m) r ≡ get m r = get-without q m r ∙ ap (λ o. at_rest_or o (λ _. None) (get m r)) e in ap (at_rest_or (strip q r) (λ s. look s es)) kept)

  -- and taken out again it leaves the same
  without_put : without q (with_subtree q es m) ≡ without q m
  without_put = same_map (without q (with_subtree q es m)) (without q m) (λ r. get-without q (with_subtree q es m) r ∙ by r (strip q r) refl ∙ sym (get-without q m r))
    where
      by : (r : Path) (o : Option Path) → strip q r ≡ o → at_rest_or (strip q r) (λ _. None) (get (with_subtree q es m) r) ≡ at_rest_or (strip q r) (λ _. None) (get m r)
      by r (Some s) e = rw e refl
      by r None e = (let kept : get (with_subtree q es m) r ≡ get m r = get-replaced q es m r ∙ ap (λ o. at_rest_or o (λ s. look s es) (get m r)) e in ap (at_rest_or (strip q r) (λ _. None)) kept)

-- nothing stands where it was taken out
gone_there : (m : Tree) (q : Path) → is_there (without q m) q ≡ false
gone_there m q = ap is_some (get-without q m q ∙ ap (λ o. at_rest_or o (λ _. None) (get m q)) (strip-itself q))

module _ (m : Tree) (p : Path) (a : Label) where
  -- the node above it stays
  parent_kept : get (without (child p a) m) p ≡ get m p
  parent_kept = get-without (child p a) m p ∙ by (strip (child p a) p) refl
    where
      by : (o : Option Path) → strip (child p a) p ≡ o → at_rest_or o (λ _. None) (get m p) ≡ get m p
      by None e = refl
      by (Some s) e = absurd (omega (arith, ap (λ z. length z) (strip_is (child p a) p s e), length-append (child p a) s, length-append p (a ∷ [])))

  -- where the new one fits, what is left is within the limits
  left_small : (es : List (Path × Content)) → IsTree (with_subtree (child p a) es m) → IsSmall (without (child p a) m)
  left_small es h = subst IsSmall (without_put m (child p a) es) (small_tree (without (child p a) (with_subtree (child p a) es m)) (tree-without (with_subtree (child p a) es m) p a h))

-- ---- as the slots hold it

-- a new node was added besides the siblings, and its tree fits in the place of the subtree
module _ (slots : List Slot) (free : List SlotId) (at new : ℕ) (x : Content) (m : Tree) (t : Shape) (a : Label) (n : Tree) (p : Path) (es : List (Path × Content)) (rows : entries n ≡ es) (root : at ≡ number_of t) (sound : IsSound t) (g : IsGood x (edges_of t))
    (tree : branch x (edges_of t) ≡ m) (added : Added slots free new a n (cells t ++ [])) (node : get m p ≡ Some Node) (there : is_there m (child p a) ≡ true) (fits : IsTree (with_subtree (child p a) es m)) where
  added_cells : List Cell
  added_cells = (new, added.s) ∷ cells added.c

  pool_before : IsPool slots free (cells t ++ (added_cells ++ []))
  unfolding added_cells
  pool_before = pool_turned slots free ((new, added.s) ∷ cells added.c) (cells t) [] added.pool

  pub exchange_cut : IsCuttable slots at p a
  exchange_cut = cuttable slots free at x m t (added_cells ++ []) a p root sound g tree pool_before there (left_small m p a es fits)

  -- the old node was taken out
  module _ (slots2 : List Slot) (at2 gone : ℕ) (h : Shape → ℕ → Type 0) (cut : (t2 : Shape) (xs ys : List Cell) → CanCut slots at p a t2 xs ys → Cut slots2 at2 gone (cut_under p a (edges_of t2)) (λ y. h t2 y) xs ys) where
    out : IsOut slots2 free at2 gone x (without (child p a) m) (added_cells ++ [])
    out = cut_done slots free at x m t (added_cells ++ []) a p root sound g tree pool_before there (left_small m p a es fits) slots2 at2 gone h cut

    gone_cells : List Cell
    gone_cells = (gone, out.s) ∷ cells out.c

    added_after : Added slots2 free new a n (cells out.shape ++ (gone_cells ++ []))
    unfolding added_cells gone_cells
    added_after = added_in slots free new a n (cells t ++ []) added slots2 free (cells out.shape ++ (((gone, out.s) ∷ cells out.c) ++ []))
        (pool_last slots2 free (cells out.shape) ((gone, out.s) ∷ cells out.c) ((new, added.s) ∷ cells added.c) out.pool)

    node_left : get (without (child p a) m) p ≡ Some Node
    node_left = parent_kept m p a ∙ node

    small_left : IsSmall (with_subtree (child p a) es (without (child p a) m))
    small_left = subst IsSmall (sym (put_over m (child p a) es)) (small_tree (with_subtree (child p a) es m) fits)

    pub exchange_put : IsPuttable slots2 at2 new p
    exchange_put = puttable slots2 free at2 new x (without (child p a) m) out.shape (gone_cells ++ []) a n p es rows out.root out.sound out.good out.tree added_after node_left (gone_there m (child p a)) small_left

    -- and the new one put
    pub exchange_done : (slots3 : List Slot) (at3 : ℕ) (k : Shape → ℕ → Type 0) →
        ((s : Slot) (c t2 : Shape) (xs ys : List Cell) → CanPut slots2 at2 new p s c t2 xs ys → Stand slots3 at3 (put_under p s.label (branch s.content (edges_of c)) (edges_of t2)) (λ y. k t2 y) xs ys) →
        IsOut slots3 free at3 gone x (with_subtree (child p a) es m) []
    unfolding gone_cells
    exchange_done slots3 at3 k put =
        let b = put_through slots2 free at2 new x (without (child p a) m) out.shape (gone_cells ++ []) a n p es rows out.root out.sound out.good out.tree added_after node_left (gone_there m (child p a)) small_left slots3 at3 k put in
        record { shape = b.shape; s = out.s; c = out.c; root = b.root; pool = b.pool; sound = b.sound; children = out.children; below = out.below; good = b.good; tree = b.tree ∙ put_over m (child p a) es }
