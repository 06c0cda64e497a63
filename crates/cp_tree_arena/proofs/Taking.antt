-- A node that is taken out: what the slots hold before and after.
use Rattle.std.proofs.Common.{◌≡◌, ℕ, true, List, [], ◌∷◌, ◌++◌, Some, length, take, sym, ap, subst, ◌∙◌, append_assoc}
use Rattle.std.specs.List.{slice_get}
use Rattle.cp_model.specs.declared.row.Content.{Content}
use Rattle.cp_model.specs.declared.row.Content.TheVariants.{Node}
use Rattle.cp_model.specs.Place.{Label, Path, child}
use Rattle.cp_model.specs.Subtrees.{without, is_there}
use Rattle.cp_model.specs.Tree.{Tree}
use Rattle.cp_tree.specs.Branch.{branch}
use Rattle.cp_tree.specs.Good.{IsGood}
use Rattle.cp_tree.specs.Sums.{IsSmall}
use Rattle.cp_tree_arena.specs.declared.slot.Slot.{Slot}
use Rattle.cp_tree_arena.specs.declared.slot.SlotId.{SlotId}
use Rattle.cp_tree_arena.specs.Shapes.{Cell, Shape, number_of, cells, edges_of, IsSound}
use Rattle.cp_tree_arena.specs.Cells.{Holds, IsAt, IsPool}
use Rattle.cp_tree_arena.specs.Changes.{cut_under, CanCut, IsCuttable, Cut}
use Rattle.cp_tree_arena.specs.Kept.{IsKept}
use Rattle.cp_tree_arena.specs.Building.{Built}
use Rattle.cp_tree_arena.proofs.Changed.{node_over, cut_under-is, cut_under-small}
use Rattle.cp_tree_arena.proofs.Holding.{pool_turned}
use Rattle.cp_tree_arena.proofs.Placing.{written}
use Rattle.cp_tree_arena.proofs.Reading.{kept_here}

-- the siblings that are left are the children of a root x, with the tree m, and what was taken out stands in this slot, with its children
pub record IsOut (slots : List Slot) (free : List SlotId) (at gone : ℕ) (x : Content) (m : Tree) (cs : List Cell) : Type 0 where
  pub shape : Shape
  pub s : Slot
  pub c : Shape
  pub root : at ≡ number_of shape
  pub pool : IsPool slots free (cells shape ++ (((gone, s) ∷ cells c) ++ cs))
  pub sound : IsSound shape
  pub children : s.links.children.number ≡ number_of c
  pub below : IsSound c
  pub good : IsGood x (edges_of shape)
  pub tree : branch x (edges_of shape) ≡ m

-- what stands at a label below the place p is taken out
module _ (slots : List Slot) (free : List SlotId) (at : ℕ) (x : Content) (m : Tree) (t : Shape) (cs : List Cell) (a : Label) (p : Path)
    (root : at ≡ number_of t) (sound : IsSound t) (g : IsGood x (edges_of t)) (tree : branch x (edges_of t) ≡ m) (pool : IsPool slots free (cells t ++ cs)) (there : is_there m (child p a) ≡ true) where
  there_below : is_there (branch x (edges_of t)) (child p a) ≡ true
  there_below = ap (λ z. is_there z (child p a)) tree ∙ there

  over_node : x ≡ Node
  over_node = node_over x (edges_of t) g p a there_below

  module _ (small : IsSmall (without (child p a) m)) where
    can_cut : CanCut slots at p a t [] (cs ++ pool.rest)
    can_cut = record {
      holds = subst (Holds slots) (append_assoc (cells t) cs pool.rest) pool.holds;
      root = root;
      sound = sound;
      there = subst (λ z. is_there (branch z (edges_of t)) (child p a) ≡ true) over_node there_below;
      small = cut_under-small x (edges_of t) g a p there_below (subst IsSmall (ap (without (child p a)) (sym tree)) small);
    }

    pub cuttable : IsCuttable slots at p a
    cuttable = record { t = t; xs = []; ys = cs ++ pool.rest; can = can_cut }

  cut_out : (slots2 : List Slot) (r gone : ℕ) (h : ℕ → Type 0) → Cut slots2 r gone (cut_under p a (edges_of t)) h [] (cs ++ pool.rest) → IsOut slots2 free r gone x (without (child p a) m) cs
  cut_out slots2 r gone h cut =
      let now = cut_under-is x (edges_of t) g a p there_below in
      record {
        shape = cut.shape;
        s = cut.s;
        c = cut.c;
        root = cut.root;
        pool = record { rest = pool.rest; numbers = pool.numbers; holds = subst (Holds slots2) (sym (simp append_assoc)) cut.holds };
        sound = cut.sound;
        children = cut.children;
        below = cut.below;
        good = subst (IsGood x) (sym cut.edges) now.good;
        tree = ap (branch x) cut.edges ∙ now.is ∙ ap (without (child p a)) tree;
      }

  -- what is left
  pub cut_done : (small : IsSmall (without (child p a) m)) (slots2 : List Slot) (r gone : ℕ) (h : Shape → ℕ → Type 0) →
      ((t2 : Shape) (xs ys : List Cell) → CanCut slots at p a t2 xs ys → Cut slots2 r gone (cut_under p a (edges_of t2)) (λ y. h t2 y) xs ys) → IsOut slots2 free r gone x (without (child p a) m) cs
  cut_done small slots2 r gone h cut = cut_out slots2 r gone _ (cut t [] (cs ++ pool.rest) (can_cut small))

-- a node that no other leads to, with its children
module _ (slots : List Slot) (free : List SlotId) (gone : ℕ) (s : Slot) (c : Shape) (cs : List Cell) (pool : IsPool slots free ((gone, s) ∷ (cells c ++ cs))) (children : s.links.children.number ≡ number_of c) (below : IsSound c) where
  gone_kept : (z : Slot) → slice_get slots gone ≡ Some z → IsKept slots z.links.children.number
  gone_kept z e =
      let same : s ≡ z = (let there = pool.holds.stand.0 in cc) in
      let here : IsAt slots s.links.children.number c ((gone, s) ∷ []) (cs ++ pool.rest) = record { root = children; holds = subst (Holds slots) (ap (λ y. (gone, s) ∷ y) (append_assoc (cells c) cs pool.rest)) pool.holds; sound = below } in
      subst (λ y. IsKept slots y.links.children.number) same (kept_here slots _ c _ _ here)

-- what is left of siblings, and the node that was taken out
module _ (slots : List Slot) (free : List SlotId) (at gone : ℕ) (x : Content) (m : Tree) (cs : List Cell) (o : IsOut slots free at gone x m cs) where
  pub out_pool : IsPool slots free ((gone, o.s) ∷ (cells o.c ++ (cells o.shape ++ cs)))
  out_pool = pool_turned slots free (cells o.shape) ((gone, o.s) ∷ cells o.c) cs o.pool

  pub out_kept : (z : Slot) → slice_get slots gone ≡ Some z → IsKept slots z.links.children.number
  out_kept = gone_kept slots free gone o.s o.c (cells o.shape ++ cs) out_pool o.children o.below

  -- without it
  pub out_built : (slots2 : List Slot) (free2 : List SlotId) → IsPool slots2 free2 (cells o.shape ++ cs) → Built slots2 free2 at x m cs
  out_built slots2 free2 pool = record { shape = o.shape; root = o.root; pool = pool; sound = o.sound; good = o.good; tree = o.tree }

  pub out_written : (n : ℕ) (rest : List Slot) → n ≡ length slots → IsOut (take n (slots ++ rest)) free at gone x m cs
  out_written n rest e = subst (λ z. IsOut z free at gone x m cs) (sym (written n slots rest e)) o
