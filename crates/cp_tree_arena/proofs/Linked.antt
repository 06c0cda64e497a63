-- A node that is linked to its children and to the siblings before and after it.
use Rattle.std.specs.Prelude.{◌≡◌, ℕ, ◌+◌, ◌≤◌, max, List, [], ◌∷◌, ◌++◌, length, slice_get, slice_set, slice_index_or, refl}
use Rattle.std.proofs.Common.{sym, ap, subst, ◌∙◌, append_assoc, arith}
use Rattle.std.proofs.lemmas.Option.{get_or_from_slice_get}
use Rattle.cp_model.specs.declared.limits.TheConstants.{NODES_MAX}
use Rattle.cp_model.specs.Place.{Label}
use Rattle.cp_model.specs.Tree.{Tree, text_bytes}
use Rattle.cp_tree.specs.Branch.{branch, children_len}
use Rattle.cp_tree.specs.Sums.{sums_of, beside, seen_above, AreSmall, AreChildren}
use Rattle.cp_tree.specs.declared.sums.Sums.{Sums}
use Rattle.cp_tree.proofs.Totals.{len-branch}
use Rattle.cp_tree.proofs.SumsLemmas.{children_len-append, children_front, children_back, sums_above, sums_beside, small_beside}
use Rattle.cp_tree_arena.specs.declared.slot.Slot.{Slot}
use Rattle.cp_tree_arena.specs.declared.slot.Links.{Links}
use Rattle.cp_tree_arena.specs.Slots.{height_in, sums_in}
use Rattle.cp_tree_arena.specs.Shapes.{Cell, Shape, Fork, height_of, cells, edges_of, edges_around}
use Rattle.cp_tree_arena.specs.Cells.{Stand}
use Rattle.cp_tree_arena.specs.Linking.{linked_edges, CanLink}
use Rattle.cp_tree_arena.proofs.Held.{held_set}
use Rattle.cp_tree_arena.proofs.Sound.{link_left, link_children, link_right, link_node, height_read, sums_read, low_height, around, held_as}

module _ (by : ℕ) (slots : List Slot) (at : ℕ) (links : Links) (s : Slot) (l c r : Shape) (xs ys : List Cell) (k : CanLink by slots at links s l c r xs ys) where
  -- the slot that is read
  pub node_is : (read : Slot) → read ≡ slice_index_or slots at read → read ≡ s
  node_is read e = e ∙ get_or_from_slice_get slots at s read (link_node by slots at links s l c r xs ys k)

  -- the edge of the node alone
  pub node_children : AreChildren ((s.label, branch s.content (edges_of c)) ∷ [])
  node_children =
      let e : Label × Tree = (s.label, branch s.content (edges_of c)) in
      children_front (e ∷ []) (edges_of r) (children_back (edges_of l) (e ∷ edges_of r) k.edges)

  pub sums_node : (x : Sums) → x ≡ sums_in (slice_get slots links.children.number) → seen_above (length s.label) (text_bytes s.content) x ≡ sums_of ((s.label, branch s.content (edges_of c)) ∷ [])
  sums_node x e =
      sums_above x (s.label, branch s.content (edges_of c)) s.label s.content (edges_of c) (e ∙ sums_read slots links.children.number c (xs ++ (cells l ++ (at, s) ∷ [])) (cells r ++ ys) (link_children by slots at links s l c r xs ys k)) refl k.good

  pub small_node : (x : Sums) → x ≡ sums_in (slice_get slots links.children.number) → AreSmall (seen_above (length s.label) (text_bytes s.content) x)
  small_node x e = subst AreSmall (sym (sums_node x e)) node_children.small

  left_sums : (x : Sums) → x ≡ sums_in (slice_get slots links.left.number) → x ≡ sums_of (edges_of l)
  left_sums x e = e ∙ sums_read slots links.left.number l xs ((at, s) ∷ ((cells c ++ cells r) ++ ys)) (link_left by slots at links s l c r xs ys k)

  right_sums : (x : Sums) → x ≡ sums_in (slice_get slots links.right.number) → x ≡ sums_of (edges_of r)
  right_sums x e = e ∙ sums_read slots links.right.number r (xs ++ (cells l ++ (at, s) ∷ cells c)) ys (link_right by slots at links s l c r xs ys k)

  pub left_height : height_in (slice_get slots links.left.number) ≡ height_of l
  left_height = height_read slots links.left.number l xs ((at, s) ∷ ((cells c ++ cells r) ++ ys)) (link_left by slots at links s l c r xs ys k)

  pub right_height : height_in (slice_get slots links.right.number) ≡ height_of r
  right_height = height_read slots links.right.number r (xs ++ (cells l ++ (at, s) ∷ cells c)) ys (link_right by slots at links s l c r xs ys k)

  -- the sums, put together
  module _ (node right : Sums) (n : node ≡ sums_of ((s.label, branch s.content (edges_of c)) ∷ [])) (f : right ≡ sums_in (slice_get slots links.right.number)) where
    after_children : AreChildren (((s.label, branch s.content (edges_of c)) ∷ []) ++ edges_of r)
    after_children = children_back (edges_of l) ((s.label, branch s.content (edges_of c)) ∷ edges_of r) k.edges

    pub after_small : AreSmall (beside node right)
    after_small = small_beside node right ((s.label, branch s.content (edges_of c)) ∷ []) (edges_of r) n (right_sums right f) after_children

    module _ (left after : Sums) (e : left ≡ sums_in (slice_get slots links.left.number)) (a : after ≡ beside node right) where
      after_sums : after ≡ sums_of ((s.label, branch s.content (edges_of c)) ∷ edges_of r)
      after_sums = a ∙ sums_beside node right ((s.label, branch s.content (edges_of c)) ∷ []) (edges_of r) n (right_sums right f)

      pub all_small : AreSmall (beside left after)
      all_small = small_beside left after (edges_of l) ((s.label, branch s.content (edges_of c)) ∷ edges_of r) (left_sums left e) after_sums k.edges

      pub all_sums : beside left after ≡ sums_of (linked_edges s l c r)
      all_sums = sums_beside left after (edges_of l) ((s.label, branch s.content (edges_of c)) ∷ edges_of r) (left_sums left e) after_sums

  -- a node has more places than its siblings' trees are high
  high_enough : max (height_of l) (height_of r) + 1 ≤ children_len (linked_edges s l c r)
  high_enough =
      omega (arith, low_height l k.before, low_height r k.after, children_len-append (edges_of l) ((s.label, branch s.content (edges_of c)) ∷ edges_of r), len-branch s.content (edges_of c) k.good.sorted)

  pub few_levels : max (height_of l) (height_of r) + 1 ≤ NODES_MAX
  few_levels = omega (arith, high_enough, k.edges.small.nodes)

-- the slot that was written stands among its neighbours
pub linked : (slots : List Slot) (at : ℕ) (links : Links) (s : Slot) (l c r : Shape) (xs ys : List Cell) → CanLink 1 slots at links s l c r xs ys →
    (t : Slot) → t.label ≡ s.label → t.content ≡ s.content → t.links ≡ links → t.height ≡ max (height_of l) (height_of r) + 1 → t.sums ≡ sums_of (linked_edges s l c r) →
    Stand (slice_set slots at t) at (linked_edges s l c r) (λ h. h ≡ max (height_of l) (height_of r) + 1) xs ys
linked slots at links s l c r xs ys k t label content joins height sums =
    let edges : edges_around (edges_of l) t (edges_of c) (edges_of r) ≡ linked_edges s l c r = ap (λ a. edges_of l ++ (a, branch t.content (edges_of c)) ∷ edges_of r) label ∙ ap (λ x. edges_of l ++ (s.label, branch x (edges_of c)) ∷ edges_of r) content in
    let here = held_set slots (xs ++ cells l) at s t ((cells c ++ cells r) ++ ys) (around slots at s (cells l) (cells c) (cells r) xs ys k.holds) in
    record {
      shape = Fork at t l c r;
      is = record {
        root = refl;
        holds = held_as (slice_set slots at t) ((xs ++ cells l) ++ (at, t) ∷ ((cells c ++ cells r) ++ ys)) (xs ++ (cells (Fork at t l c r) ++ ys)) (simp append_assoc) here;
        sound = (
          record {
            left = ap (λ z. z.left.number) joins ∙ k.left;
            children = ap (λ z. z.children.number) joins ∙ k.children;
            right = ap (λ z. z.right.number) joins ∙ k.right;
            good = rw content k.good;
            edges = rw edges k.edges;
            high = height;
            near = k.near;
            sums = sums ∙ ap sums_of (sym edges);
            low = rw edges (omega (arith, height, high_enough 1 slots at links s l c r xs ys k));
          },
          k.before,
          k.below,
          k.after,
        );
      };
      edges = edges;
      high = height;
    }
