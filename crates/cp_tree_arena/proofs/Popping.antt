-- The first of siblings taken out, and siblings put beside others.
use Rattle.std.specs.Prelude.{◌≡◌, ℕ, ◌+◌, ◌≤◌, max, List, [], ◌∷◌, ◌++◌, slice_get}
use Rattle.std.proofs.Common.{sym, ap, subst, ◌∙◌, append_assoc, append-nil, arith}
use Rattle.cp_tree.specs.Branch.{branch}
use Rattle.cp_tree.specs.Sums.{AreChildren}
use Rattle.cp_tree.proofs.SumsLemmas.{children_back}
use Rattle.cp_tree_arena.specs.declared.slot.Slot.{Slot}
use Rattle.cp_tree_arena.specs.declared.slot.SlotId.{SlotId}
use Rattle.cp_tree_arena.specs.declared.slot.Links.{Links}
use Rattle.cp_tree_arena.specs.Slots.{links_in}
use Rattle.cp_tree_arena.specs.Shapes.{Cell, Shape, Tip, height_of, cells, edges_of, Settles}
use Rattle.cp_tree_arena.specs.Cells.{Holds, IsAt, Stand}
use Rattle.cp_tree_arena.specs.Linking.{linked_edges, CanLink, CanJoin, Popped}
use Rattle.cp_tree_arena.proofs.Sound.{held_as}
use Rattle.cp_tree_arena.proofs.Opening.{Opened}
use Rattle.cp_tree_arena.proofs.Held.{held_at}
use Rattle.cp_tree_arena.proofs.Settling.{lowered, joined_height}

module _ (slots : List Slot) (at : ℕ) (t : Shape) (xs ys : List Cell) (links : Links) (f : Opened slots at t xs ys links) where
  -- the root is the first
  pub popped_root : f.l ≡ Tip → Popped slots at links.right.number (edges_of t) (λ h. (h ≤ height_of t) × (height_of t ≤ h + 1)) xs ys
  popped_root tip = record {
    s = f.s;
    c = f.c;
    shape = f.r;
    holds = subst (λ z. Holds slots (xs ++ ((cells z ++ (at, f.s) ∷ (cells f.c ++ cells f.r)) ++ ys))) tip f.can.holds;
    root = f.can.right;
    children = ap (λ z. z.children.number) (sym f.same) ∙ f.can.children;
    below = f.can.below;
    sound = f.can.after;
    good = f.can.good;
    edges = ap edges_of f.is ∙ ap (λ z. edges_of z ++ (f.s.label, branch f.s.content (edges_of f.c)) ∷ edges_of f.r) tip;
    high = (omega (arith, f.high, f.can.near), omega (arith, f.high, ap height_of tip, f.can.near));
  }

  -- the first stands among the siblings before it
  module _ (slots2 : List Slot) (first : ℕ) (left : SlotId) (p : Popped slots2 first left.number (edges_of f.l) (λ h. (h ≤ height_of f.l) × (height_of f.l ≤ h + 1)) xs ((at, f.s) ∷ ((cells f.c ++ cells f.r) ++ ys))) where
    pub popped_link : CanLink 2 slots2 at (record { left = left; children = links.children; right = links.right }) f.s p.shape f.c f.r (xs ++ (first, p.s) ∷ cells p.c) ys
    popped_link = record {
      holds = held_as slots2
          (xs ++ (((first, p.s) ∷ (cells p.c ++ cells p.shape)) ++ ((at, f.s) ∷ ((cells f.c ++ cells f.r) ++ ys))))
          ((xs ++ (first, p.s) ∷ cells p.c) ++ ((cells p.shape ++ (at, f.s) ∷ (cells f.c ++ cells f.r)) ++ ys))
          (simp append_assoc) p.holds;
      left = p.root;
      children = f.can.children;
      right = f.can.right;
      before = p.sound;
      below = f.can.below;
      after = f.can.after;
      good = f.can.good;
      edges = children_back ((p.s.label, branch p.s.content (edges_of p.c)) ∷ []) (linked_edges f.s p.shape f.c f.r)
          (subst (λ z. AreChildren (z ++ (f.s.label, branch f.s.content (edges_of f.c)) ∷ edges_of f.r)) p.edges f.can.edges);
      near = (omega (arith, f.can.near, p.high), omega (arith, f.can.near, p.high));
    }

    pub popped_more : (slots3 : List Slot) (root : ℕ) → Stand slots3 root (linked_edges f.s p.shape f.c f.r) (Settles (height_of p.shape) (height_of f.r)) (xs ++ (first, p.s) ∷ cells p.c) ys →
        Popped slots3 first root (edges_of t) (λ h. (h ≤ height_of t) × (height_of t ≤ h + 1)) xs ys
    popped_more slots3 root k = record {
      s = p.s;
      c = p.c;
      shape = k.shape;
      holds = held_as slots3 ((xs ++ (first, p.s) ∷ cells p.c) ++ (cells k.shape ++ ys)) (xs ++ (((first, p.s) ∷ (cells p.c ++ cells k.shape)) ++ ys)) (simp append_assoc) k.is.holds;
      root = k.is.root;
      children = p.children;
      below = p.below;
      sound = k.is.sound;
      good = p.good;
      edges = ap edges_of f.is ∙ ap (λ z. z ++ (f.s.label, branch f.s.content (edges_of f.c)) ∷ edges_of f.r) p.edges ∙ ap (λ z. (p.s.label, branch p.s.content (edges_of p.c)) ∷ z) (sym k.edges);
      high = lowered (height_of t) (height_of f.l) (height_of f.r) (height_of p.shape) (height_of k.shape) f.high f.can.near p.high k.high;
    }

module _ (slots : List Slot) (one two : ℕ) (l r : Shape) (xs ys : List Cell) (k : CanJoin slots one two l r xs ys) where
  -- the siblings that come after
  pub join_right : IsAt slots two r (xs ++ cells l) ys
  join_right = record { root = k.right; holds = held_as slots (xs ++ ((cells l ++ cells r) ++ ys)) ((xs ++ cells l) ++ (cells r ++ ys)) (simp append_assoc) k.holds; sound = k.after }

  -- there are none
  pub joined_none : r ≡ Tip → Stand slots one (edges_of l ++ edges_of r) (λ h. (max (height_of l) (height_of r) ≤ h) × (h ≤ max (height_of l) (height_of r) + 1)) xs ys
  joined_none tip = record {
    shape = l;
    is = record {
      root = k.left;
      holds = subst (λ z. Holds slots (xs ++ (z ++ ys))) (ap (λ z. cells l ++ cells z) tip ∙ append-nil (cells l)) k.holds;
      sound = k.before;
    };
    edges = sym (ap (λ z. edges_of l ++ edges_of z) tip ∙ append-nil (edges_of l));
    high = (omega (arith, ap height_of tip), omega arith);
  }

  -- the first of them joins both
  module _ (slots2 : List Slot) (left first others : SlotId) (links : Links) (same : left.number ≡ one)
      (p : Popped slots2 first.number others.number (edges_of r) (λ h. (h ≤ height_of r) × (height_of r ≤ h + 1)) (xs ++ cells l) ys) (e : links ≡ links_in (slice_get slots2 first.number)) where
    first_links : links ≡ p.s.links
    first_links = e ∙ ap links_in (held_at slots2 (xs ++ cells l) (first.number, p.s) ((cells p.c ++ cells p.shape) ++ ys) p.holds)

    pub join_link : CanLink 2 slots2 first.number (record { left = left; children = links.children; right = others }) p.s l p.c p.shape xs ys
    join_link = record {
      holds = held_as slots2 ((xs ++ cells l) ++ (((first.number, p.s) ∷ (cells p.c ++ cells p.shape)) ++ ys)) (xs ++ ((cells l ++ (first.number, p.s) ∷ (cells p.c ++ cells p.shape)) ++ ys)) (simp append_assoc) p.holds;
      left = same ∙ k.left;
      children = ap (λ z. z.children.number) first_links ∙ p.children;
      right = p.root;
      before = k.before;
      below = p.below;
      after = p.sound;
      good = p.good;
      edges = subst (λ z. AreChildren (edges_of l ++ z)) p.edges k.edges;
      near = (omega (arith, k.near, p.high), omega (arith, k.near, p.high));
    }

    pub joined_more : (slots3 : List Slot) (root : ℕ) → Stand slots3 root (linked_edges p.s l p.c p.shape) (Settles (height_of l) (height_of p.shape)) xs ys →
        Stand slots3 root (edges_of l ++ edges_of r) (λ h. (max (height_of l) (height_of r) ≤ h) × (h ≤ max (height_of l) (height_of r) + 1)) xs ys
    joined_more slots3 root w = record {
      shape = w.shape;
      is = w.is;
      edges = w.edges ∙ ap (λ z. edges_of l ++ z) (sym p.edges);
      high = joined_height (height_of l) (height_of r) (height_of p.shape) (height_of w.shape) k.near p.high w.high;
    }
