-- Siblings taken apart at their root.
use Rattle.std.specs.Prelude.{◌≡◌, ℕ, ◌+◌, ◌<◌, ◌≢◌, max, List, [], ◌∷◌, ◌++◌, slice_get, refl}
use Rattle.std.proofs.Common.{sym, ap, subst, ◌∙◌, arith}
use Rattle.cp_tree.specs.Branch.{branch}
use Rattle.cp_tree.specs.Sums.{sums_of}
use Rattle.cp_tree.proofs.Totals.{len-branch}
use Rattle.cp_tree.proofs.SumsLemmas.{children_len-append}
use Rattle.cp_tree_arena.specs.declared.slot.Slot.{Slot}
use Rattle.cp_tree_arena.specs.declared.slot.Links.{Links}
use Rattle.cp_tree_arena.specs.Slots.{NO_SLOT, sums_in, links_in}
use Rattle.cp_tree_arena.specs.Shapes.{Cell, Shape, Tip, Fork, height_of, cells, edges_of}
use Rattle.cp_tree_arena.specs.Cells.{IsAt}
use Rattle.cp_tree_arena.specs.Linking.{linked_edges, CanLink}
use Rattle.cp_tree_arena.proofs.Sound.{node_some, link_left, link_children, link_right, sums_read, unlinked}
use Rattle.cp_tree_arena.proofs.Leaning.{Top, top_of, links_read}

-- no siblings stand at the number of no slot
pub tip_of : (slots : List Slot) (at : ℕ) (t : Shape) (xs ys : List Cell) → IsAt slots at t xs ys → at ≡ NO_SLOT → t ≡ Tip
tip_of slots at Tip xs ys k e = refl
tip_of slots at (Fork n s l c r) xs ys k e = absurd (omega (arith, node_some slots n s (cells l) (cells c) (cells r) xs ys k.holds, k.root, e))

-- and some at any other
pub full_of : (slots : List Slot) (at : ℕ) (t : Shape) (xs ys : List Cell) → IsAt slots at t xs ys → at ≢ NO_SLOT → 0 < height_of t
full_of slots at Tip xs ys k e = absurd (e k.root)
full_of slots at (Fork n s l c r) xs ys k e = omega (arith, k.sound.0.high)

-- a root that stands among its neighbours
pub record Opened (slots : List Slot) (at : ℕ) (t : Shape) (xs ys : List Cell) (links : Links) : Type 0 where
  pub s : Slot
  pub l : Shape
  pub c : Shape
  pub r : Shape
  pub is : t ≡ Fork at s l c r
  pub same : links ≡ s.links
  pub can : CanLink 1 slots at links s l c r xs ys
  pub high : height_of t ≡ max (height_of l) (height_of r) + 1

opened_from : (slots : List Slot) (at : ℕ) (t : Shape) (xs ys : List Cell) (links : Links) (f : Top at t) → IsAt slots at (Fork at f.s f.l f.c f.r) xs ys → links ≡ links_in (slice_get slots at) → Opened slots at t xs ys links
opened_from slots at t xs ys links f k e =
    let same : links ≡ f.s.links = e ∙ links_read slots at at f.s f.l f.c f.r xs ys k in
    record {
      s = f.s;
      l = f.l;
      c = f.c;
      r = f.r;
      is = f.is;
      same = same;
      can = subst (λ z. CanLink 1 slots at z f.s f.l f.c f.r xs ys) (sym same) (unlinked slots at at f.s f.l f.c f.r xs ys k);
      high = ap height_of f.is ∙ k.sound.0.high;
    }

pub opened : (slots : List Slot) (at : ℕ) (t : Shape) (xs ys : List Cell) (links : Links) → IsAt slots at t xs ys → 0 < height_of t → links ≡ links_in (slice_get slots at) → Opened slots at t xs ys links
opened slots at t xs ys links k some e =
    let f = top_of at t k.root some in
    opened_from slots at t xs ys links f (subst (λ z. IsAt slots at z xs ys) f.is k) e

-- there are fewer places in each part
module _ (slots : List Slot) (at : ℕ) (t : Shape) (xs ys : List Cell) (links : Links) (k : IsAt slots at t xs ys) (f : Opened slots at t xs ys links) where
  places : (sums_in (slice_get slots at)).nodes ≡ (sums_of (linked_edges f.s f.l f.c f.r)).nodes
  places = ap (λ z. z.nodes) (sums_read slots at t xs ys k) ∙ ap (λ z. (sums_of (edges_of z)).nodes) f.is

  pub falls_left : (sums_in (slice_get slots links.left.number)).nodes < (sums_in (slice_get slots at)).nodes
  falls_left =
      let part = ap (λ z. z.nodes) (sums_read slots links.left.number f.l xs ((at, f.s) ∷ ((cells f.c ++ cells f.r) ++ ys)) (link_left 1 slots at links f.s f.l f.c f.r xs ys f.can)) in
      omega (arith, places, part, children_len-append (edges_of f.l) ((f.s.label, branch f.s.content (edges_of f.c)) ∷ edges_of f.r), len-branch f.s.content (edges_of f.c) f.can.good.sorted)

  pub falls_children : (sums_in (slice_get slots links.children.number)).nodes < (sums_in (slice_get slots at)).nodes
  falls_children =
      let part = ap (λ z. z.nodes) (sums_read slots links.children.number f.c (xs ++ (cells f.l ++ (at, f.s) ∷ [])) (cells f.r ++ ys) (link_children 1 slots at links f.s f.l f.c f.r xs ys f.can)) in
      omega (arith, places, part, children_len-append (edges_of f.l) ((f.s.label, branch f.s.content (edges_of f.c)) ∷ edges_of f.r), len-branch f.s.content (edges_of f.c) f.can.good.sorted)

  pub falls_right : (sums_in (slice_get slots links.right.number)).nodes < (sums_in (slice_get slots at)).nodes
  falls_right =
      let part = ap (λ z. z.nodes) (sums_read slots links.right.number f.r (xs ++ (cells f.l ++ (at, f.s) ∷ cells f.c)) ys (link_right 1 slots at links f.s f.l f.c f.r xs ys f.can)) in
      omega (arith, places, part, children_len-append (edges_of f.l) ((f.s.label, branch f.s.content (edges_of f.c)) ∷ edges_of f.r), len-branch f.s.content (edges_of f.c) f.can.good.sorted)
