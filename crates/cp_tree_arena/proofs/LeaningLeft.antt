-- What a rotation links where the left side is two levels higher.
use Rattle.std.specs.Prelude.{◌≡◌, ◌+◌, ◌≤◌, ◌<◌, max, List, ◌∷◌, ◌++◌, slice_get}
use Rattle.std.proofs.Common.{sym, ap, subst, ◌∙◌, append_assoc, arith}
use Rattle.cp_tree.specs.Branch.{branch}
use Rattle.cp_tree.specs.Sums.{AreChildren}
use Rattle.cp_tree.proofs.SumsLemmas.{children_front}
use Rattle.cp_tree_arena.specs.declared.slot.Slot.{Slot}
use Rattle.cp_tree_arena.specs.declared.slot.SlotId.{SlotId}
use Rattle.cp_tree_arena.specs.declared.slot.Links.{Links}
use Rattle.cp_tree_arena.specs.Slots.{height_in, links_in}
use Rattle.cp_tree_arena.specs.Shapes.{Cell, Shape, Fork, height_of, cells, edges_of}
use Rattle.cp_tree_arena.specs.Cells.{IsAt, Stand}
use Rattle.cp_tree_arena.specs.Linking.{linked_edges, CanLink}
use Rattle.cp_tree_arena.proofs.Sound.{link_left, link_right, unlinked, held_as}
use Rattle.cp_tree_arena.proofs.Linked.{left_height, right_height}
use Rattle.cp_tree_arena.proofs.Leaning.{Top, top_of, links_read, edges_left, edges_right, regrouped}

-- the left side, two levels higher, and the links of its root
pub record LeftTop (slots : List Slot) (id : SlotId) (links : Links) (s : Slot) (l c r : Shape) (xs ys : List Cell) (outer : Links) : Type 0 where
  pub sl : Slot
  pub ll : Shape
  pub cl : Shape
  pub lr : Shape
  pub is : l ≡ Fork links.left.number sl ll cl lr
  pub can : CanLink 2 slots id.number links s (Fork links.left.number sl ll cl lr) c r xs ys
  pub below : CanLink 1 slots links.left.number sl.links sl ll cl lr xs ((id.number, s) ∷ ((cells c ++ cells r) ++ ys))
  pub same : outer ≡ sl.links
  pub two : sl.height ≡ height_of r + 2

left_from : (slots : List Slot) (id : SlotId) (links : Links) (s : Slot) (l c r : Shape) (xs ys : List Cell) (outer : Links) → CanLink 2 slots id.number links s l c r xs ys → (t : Top links.left.number l) →
    height_of l ≡ height_of r + 2 → outer ≡ links_in (slice_get slots links.left.number) → LeftTop slots id links s l c r xs ys outer
left_from slots id links s l c r xs ys outer k t high e =
    let can : CanLink 2 slots id.number links s (Fork links.left.number t.s t.l t.c t.r) c r xs ys = subst (λ z. CanLink 2 slots id.number links s z c r xs ys) t.is k in
    let under = link_left 2 slots id.number links s (Fork links.left.number t.s t.l t.c t.r) c r xs ys can in
    record {
      sl = t.s;
      ll = t.l;
      cl = t.c;
      lr = t.r;
      is = t.is;
      can = can;
      below = unlinked slots links.left.number links.left.number t.s t.l t.c t.r xs ((id.number, s) ∷ ((cells c ++ cells r) ++ ys)) under;
      same = e ∙ links_read slots links.left.number links.left.number t.s t.l t.c t.r xs ((id.number, s) ∷ ((cells c ++ cells r) ++ ys)) under;
      two = sym (ap height_of t.is) ∙ high;
    }

pub left_top : (slots : List Slot) (id : SlotId) (links : Links) (s : Slot) (l c r : Shape) (xs ys : List Cell) (outer : Links) → CanLink 2 slots id.number links s l c r xs ys →
    height_in (slice_get slots links.left.number) ≡ height_in (slice_get slots links.right.number) + 2 → outer ≡ links_in (slice_get slots links.left.number) → LeftTop slots id links s l c r xs ys outer
left_top slots id links s l c r xs ys outer k two e =
    let high : height_of l ≡ height_of r + 2 = omega (arith, two, left_height 2 slots id.number links s l c r xs ys k, right_height 2 slots id.number links s l c r xs ys k) in
    left_from slots id links s l c r xs ys outer k (top_of links.left.number l k.left (omega arith)) high e

module _ (slots : List Slot) (id : SlotId) (links : Links) (s : Slot) (l c r : Shape) (xs ys : List Cell) (outer : Links) (f : LeftTop slots id links s l c r xs ys outer) where
  outer_left : height_in (slice_get slots outer.left.number) ≡ height_of f.ll
  outer_left = ap (λ z. height_in (slice_get slots z.left.number)) f.same ∙ left_height 1 slots links.left.number f.sl.links f.sl f.ll f.cl f.lr xs ((id.number, s) ∷ ((cells c ++ cells r) ++ ys)) f.below

  outer_right : height_in (slice_get slots outer.right.number) ≡ height_of f.lr
  outer_right = ap (λ z. height_in (slice_get slots z.right.number)) f.same ∙ right_height 1 slots links.left.number f.sl.links f.sl f.ll f.cl f.lr xs ((id.number, s) ∷ ((cells c ++ cells r) ++ ys)) f.below

  -- one rotation
  module _ (le : height_in (slice_get slots outer.right.number) ≤ height_in (slice_get slots outer.left.number)) where
    le_heights : height_of f.lr ≤ height_of f.ll
    le_heights = omega (arith, le, outer_left, outer_right)

    pub left_once_first : CanLink 1 slots id.number (record { left = outer.right; children = links.children; right = links.right }) s f.lr c r (xs ++ (cells f.ll ++ (links.left.number, f.sl) ∷ cells f.cl)) ys
    left_once_first = record {
      holds = held_as slots (xs ++ ((cells (Fork links.left.number f.sl f.ll f.cl f.lr) ++ (id.number, s) ∷ (cells c ++ cells r)) ++ ys)) ((xs ++ (cells f.ll ++ (links.left.number, f.sl) ∷ cells f.cl)) ++ ((cells f.lr ++ (id.number, s) ∷ (cells c ++ cells r)) ++ ys)) (simp append_assoc) f.can.holds;
      left = ap (λ z. z.right.number) f.same ∙ f.below.right;
      children = f.can.children;
      right = f.can.right;
      before = f.below.after;
      below = f.can.below;
      after = f.can.after;
      good = f.can.good;
      edges = edges_right (edges_of f.ll) (f.sl.label, branch f.sl.content (edges_of f.cl)) (edges_of f.lr) ((s.label, branch s.content (edges_of c)) ∷ edges_of r) f.can.edges;
      near = (omega (arith, le_heights, f.two, f.can.before.0.high, f.below.near), omega (arith, le_heights, f.two, f.can.before.0.high, f.below.near));
    }

    module _ (slots2 : List Slot) (st : Stand slots2 id.number (linked_edges s f.lr c r) (λ h. h ≡ max (height_of f.lr) (height_of r) + 1) (xs ++ (cells f.ll ++ (links.left.number, f.sl) ∷ cells f.cl)) ys) where
      left_once_edges : linked_edges f.sl f.ll f.cl st.shape ≡ linked_edges s (Fork links.left.number f.sl f.ll f.cl f.lr) c r
      left_once_edges =
          ap (λ z. edges_of f.ll ++ (f.sl.label, branch f.sl.content (edges_of f.cl)) ∷ z) st.edges
          ∙ sym (append_assoc (edges_of f.ll) ((f.sl.label, branch f.sl.content (edges_of f.cl)) ∷ edges_of f.lr) ((s.label, branch s.content (edges_of c)) ∷ edges_of r))

      pub left_once_second : CanLink 1 slots2 links.left.number (record { left = outer.left; children = outer.children; right = id }) f.sl f.ll f.cl st.shape xs ys
      left_once_second = record {
        holds = held_as slots2 ((xs ++ (cells f.ll ++ (links.left.number, f.sl) ∷ cells f.cl)) ++ (cells st.shape ++ ys)) (xs ++ ((cells f.ll ++ (links.left.number, f.sl) ∷ (cells f.cl ++ cells st.shape)) ++ ys)) (simp append_assoc) st.is.holds;
        left = ap (λ z. z.left.number) f.same ∙ f.below.left;
        children = ap (λ z. z.children.number) f.same ∙ f.below.children;
        right = st.is.root;
        before = f.below.before;
        below = f.below.below;
        after = st.is.sound;
        good = f.below.good;
        edges = subst AreChildren (sym left_once_edges) f.can.edges;
        near = (omega (arith, le_heights, f.two, f.can.before.0.high, f.below.near, st.high), omega (arith, le_heights, f.two, f.can.before.0.high, f.below.near, st.high));
      }

      pub left_once : (slots3 : List Slot) → Stand slots3 links.left.number (linked_edges f.sl f.ll f.cl st.shape) (λ h. h ≡ max (height_of f.ll) (height_of st.shape) + 1) xs ys →
          Stand slots3 links.left.number (linked_edges s l c r) (λ h. (height_of l ≤ h) × (h ≤ height_of l + 1)) xs ys
      left_once slots3 k = record {
        shape = k.shape;
        is = k.is;
        edges = k.edges ∙ left_once_edges ∙ ap (λ z. linked_edges s z c r) (sym f.is);
        high = let high : height_of l ≡ f.sl.height = ap height_of f.is in
            (omega (arith, high, le_heights, f.two, f.can.before.0.high, f.below.near, st.high, k.high), omega (arith, high, le_heights, f.two, f.can.before.0.high, f.below.near, st.high, k.high));
      }

-- the inner side of the left one, and the links of its root
pub record LeftMiddle (slots : List Slot) (id : SlotId) (links : Links) (s : Slot) (l c r : Shape) (xs ys : List Cell) (outer : Links) (f : LeftTop slots id links s l c r xs ys outer) (inner : Links) : Type 0 where
  pub sm : Slot
  pub ml : Shape
  pub cm : Shape
  pub mr : Shape
  pub is : f.lr ≡ Fork outer.right.number sm ml cm mr
  pub under : CanLink 1 slots outer.right.number sm.links sm ml cm mr (xs ++ (cells f.ll ++ (links.left.number, f.sl) ∷ cells f.cl)) ((id.number, s) ∷ ((cells c ++ cells r) ++ ys))
  pub alike : inner ≡ sm.links
  pub high : height_of f.lr ≡ max (height_of ml) (height_of mr) + 1

left_middle_from : (slots : List Slot) (id : SlotId) (links : Links) (s : Slot) (l c r : Shape) (xs ys : List Cell) (outer : Links) (f : LeftTop slots id links s l c r xs ys outer) (inner : Links) (t : Top outer.right.number f.lr) →
    IsAt slots outer.right.number f.lr (xs ++ (cells f.ll ++ (links.left.number, f.sl) ∷ cells f.cl)) ((id.number, s) ∷ ((cells c ++ cells r) ++ ys)) → inner ≡ links_in (slice_get slots outer.right.number) →
    LeftMiddle slots id links s l c r xs ys outer f inner
left_middle_from slots id links s l c r xs ys outer f inner t at e =
    let before : List Cell = xs ++ (cells f.ll ++ (links.left.number, f.sl) ∷ cells f.cl) in
    let after : List Cell = (id.number, s) ∷ ((cells c ++ cells r) ++ ys) in
    let stands : IsAt slots outer.right.number (Fork outer.right.number t.s t.l t.c t.r) before after = subst (λ z. IsAt slots outer.right.number z before after) t.is at in
    record {
      sm = t.s;
      ml = t.l;
      cm = t.c;
      mr = t.r;
      is = t.is;
      under = unlinked slots outer.right.number outer.right.number t.s t.l t.c t.r before after stands;
      alike = e ∙ links_read slots outer.right.number outer.right.number t.s t.l t.c t.r before after stands;
      high = ap height_of t.is ∙ stands.sound.0.high;
    }

pub left_middle : (slots : List Slot) (id : SlotId) (links : Links) (s : Slot) (l c r : Shape) (xs ys : List Cell) (outer : Links) (f : LeftTop slots id links s l c r xs ys outer) (inner : Links) →
    height_in (slice_get slots outer.left.number) < height_in (slice_get slots outer.right.number) → inner ≡ links_in (slice_get slots outer.right.number) → LeftMiddle slots id links s l c r xs ys outer f inner
left_middle slots id links s l c r xs ys outer f inner lt e =
    let after : List Cell = (id.number, s) ∷ ((cells c ++ cells r) ++ ys) in
    left_middle_from slots id links s l c r xs ys outer f inner
    (top_of outer.right.number f.lr (ap (λ z. z.right.number) f.same ∙ f.below.right) (omega (arith, lt, outer_right slots id links s l c r xs ys outer f)))
    (subst (λ z. IsAt slots z.right.number f.lr (xs ++ (cells f.ll ++ (links.left.number, f.sl) ∷ cells f.cl)) after) (sym f.same) (link_right 1 slots links.left.number f.sl.links f.sl f.ll f.cl f.lr xs after f.below))
    e

module _ (slots : List Slot) (id : SlotId) (links : Links) (s : Slot) (l c r : Shape) (xs ys : List Cell) (outer : Links) (f : LeftTop slots id links s l c r xs ys outer) (inner : Links) (m : LeftMiddle slots id links s l c r xs ys outer f inner)
    (lt : height_in (slice_get slots outer.left.number) < height_in (slice_get slots outer.right.number)) where
  left_lower : height_of f.ll < height_of f.lr
  left_lower = omega (arith, lt, outer_left slots id links s l c r xs ys outer f, outer_right slots id links s l c r xs ys outer f)

  left_all : AreChildren ((edges_of f.ll ++ (f.sl.label, branch f.sl.content (edges_of f.cl)) ∷ (edges_of m.ml ++ (m.sm.label, branch m.sm.content (edges_of m.cm)) ∷ edges_of m.mr)) ++ (s.label, branch s.content (edges_of c)) ∷ edges_of r)
  left_all = subst (λ z. AreChildren ((edges_of f.ll ++ (f.sl.label, branch f.sl.content (edges_of f.cl)) ∷ edges_of z) ++ (s.label, branch s.content (edges_of c)) ∷ edges_of r)) m.is f.can.edges

  pub left_twice_first : CanLink 1 slots links.left.number (record { left = outer.left; children = outer.children; right = inner.left }) f.sl f.ll f.cl m.ml xs ((outer.right.number, m.sm) ∷ ((cells m.cm ++ cells m.mr) ++ ((id.number, s) ∷ ((cells c ++ cells r) ++ ys))))
  left_twice_first = record {
    holds = held_as slots
        ((xs ++ (cells f.ll ++ (links.left.number, f.sl) ∷ cells f.cl)) ++ ((cells m.ml ++ (outer.right.number, m.sm) ∷ (cells m.cm ++ cells m.mr)) ++ ((id.number, s) ∷ ((cells c ++ cells r) ++ ys))))
        (xs ++ ((cells f.ll ++ (links.left.number, f.sl) ∷ (cells f.cl ++ cells m.ml)) ++ ((outer.right.number, m.sm) ∷ ((cells m.cm ++ cells m.mr) ++ ((id.number, s) ∷ ((cells c ++ cells r) ++ ys))))))
        (simp append_assoc) m.under.holds;
    left = ap (λ z. z.left.number) f.same ∙ f.below.left;
    children = ap (λ z. z.children.number) f.same ∙ f.below.children;
    right = ap (λ z. z.left.number) m.alike ∙ m.under.left;
    before = f.below.before;
    below = f.below.below;
    after = m.under.before;
    good = f.below.good;
    edges = edges_left (edges_of f.ll) (f.sl.label, branch f.sl.content (edges_of f.cl)) (edges_of m.ml) ((m.sm.label, branch m.sm.content (edges_of m.cm)) ∷ edges_of m.mr)
        (children_front (edges_of f.ll ++ (f.sl.label, branch f.sl.content (edges_of f.cl)) ∷ (edges_of m.ml ++ (m.sm.label, branch m.sm.content (edges_of m.cm)) ∷ edges_of m.mr)) ((s.label, branch s.content (edges_of c)) ∷ edges_of r) left_all);
    near = (omega (arith, left_lower, f.two, f.can.before.0.high, f.below.near, m.high, m.under.near), omega (arith, left_lower, f.two, f.can.before.0.high, f.below.near, m.high, m.under.near));
  }

  module _ (slots2 : List Slot) (one : Stand slots2 links.left.number (linked_edges f.sl f.ll f.cl m.ml) (λ h. h ≡ max (height_of f.ll) (height_of m.ml) + 1) xs ((outer.right.number, m.sm) ∷ ((cells m.cm ++ cells m.mr) ++ ((id.number, s) ∷ ((cells c ++ cells r) ++ ys))))) where
    pub left_twice_second : CanLink 1 slots2 id.number (record { left = inner.right; children = links.children; right = links.right }) s m.mr c r (xs ++ (cells one.shape ++ (outer.right.number, m.sm) ∷ cells m.cm)) ys
    left_twice_second = record {
      holds = held_as slots2
          (xs ++ (cells one.shape ++ ((outer.right.number, m.sm) ∷ ((cells m.cm ++ cells m.mr) ++ ((id.number, s) ∷ ((cells c ++ cells r) ++ ys))))))
          ((xs ++ (cells one.shape ++ (outer.right.number, m.sm) ∷ cells m.cm)) ++ ((cells m.mr ++ (id.number, s) ∷ (cells c ++ cells r)) ++ ys))
          (simp append_assoc) one.is.holds;
      left = ap (λ z. z.right.number) m.alike ∙ m.under.right;
      children = f.can.children;
      right = f.can.right;
      before = m.under.after;
      below = f.can.below;
      after = f.can.after;
      good = f.can.good;
      edges = edges_right (edges_of m.ml) (m.sm.label, branch m.sm.content (edges_of m.cm)) (edges_of m.mr) ((s.label, branch s.content (edges_of c)) ∷ edges_of r)
          (edges_right (edges_of f.ll) (f.sl.label, branch f.sl.content (edges_of f.cl)) (edges_of m.ml ++ (m.sm.label, branch m.sm.content (edges_of m.cm)) ∷ edges_of m.mr) ((s.label, branch s.content (edges_of c)) ∷ edges_of r) left_all);
      near = (omega (arith, left_lower, f.two, f.can.before.0.high, f.below.near, m.high, m.under.near), omega (arith, left_lower, f.two, f.can.before.0.high, f.below.near, m.high, m.under.near));
    }

    module _ (slots3 : List Slot) (two : Stand slots3 id.number (linked_edges s m.mr c r) (λ h. h ≡ max (height_of m.mr) (height_of r) + 1) (xs ++ (cells one.shape ++ (outer.right.number, m.sm) ∷ cells m.cm)) ys) where
      left_twice_edges : linked_edges m.sm one.shape m.cm two.shape ≡ linked_edges s (Fork links.left.number f.sl f.ll f.cl f.lr) c r
      left_twice_edges =
          ap (λ z. z ++ (m.sm.label, branch m.sm.content (edges_of m.cm)) ∷ edges_of two.shape) one.edges
          ∙ ap (λ z. linked_edges f.sl f.ll f.cl m.ml ++ (m.sm.label, branch m.sm.content (edges_of m.cm)) ∷ z) two.edges
          ∙ regrouped (edges_of f.ll) (f.sl.label, branch f.sl.content (edges_of f.cl)) (edges_of m.ml) (m.sm.label, branch m.sm.content (edges_of m.cm)) (edges_of m.mr) (s.label, branch s.content (edges_of c)) (edges_of r)
          ∙ ap (λ z. (edges_of f.ll ++ (f.sl.label, branch f.sl.content (edges_of f.cl)) ∷ edges_of z) ++ (s.label, branch s.content (edges_of c)) ∷ edges_of r) (sym m.is)

      pub left_twice_third : CanLink 1 slots3 outer.right.number (record { left = links.left; children = inner.children; right = id }) m.sm one.shape m.cm two.shape xs ys
      left_twice_third = record {
        holds = held_as slots3
            ((xs ++ (cells one.shape ++ (outer.right.number, m.sm) ∷ cells m.cm)) ++ (cells two.shape ++ ys))
            (xs ++ ((cells one.shape ++ (outer.right.number, m.sm) ∷ (cells m.cm ++ cells two.shape)) ++ ys))
            (simp append_assoc) two.is.holds;
        left = one.is.root;
        children = ap (λ z. z.children.number) m.alike ∙ m.under.children;
        right = two.is.root;
        before = one.is.sound;
        below = m.under.below;
        after = two.is.sound;
        good = m.under.good;
        edges = subst AreChildren (sym left_twice_edges) f.can.edges;
        near = (omega (arith, left_lower, f.two, f.can.before.0.high, f.below.near, m.high, m.under.near, one.high, two.high), omega (arith, left_lower, f.two, f.can.before.0.high, f.below.near, m.high, m.under.near, one.high, two.high));
      }

      pub left_twice : (slots4 : List Slot) → Stand slots4 outer.right.number (linked_edges m.sm one.shape m.cm two.shape) (λ h. h ≡ max (height_of one.shape) (height_of two.shape) + 1) xs ys →
          Stand slots4 outer.right.number (linked_edges s l c r) (λ h. (height_of l ≤ h) × (h ≤ height_of l + 1)) xs ys
      left_twice slots4 k = record {
        shape = k.shape;
        is = k.is;
        edges = k.edges ∙ left_twice_edges ∙ ap (λ z. linked_edges s z c r) (sym f.is);
        high = let high : height_of l ≡ f.sl.height = ap height_of f.is in
            (omega (arith, high, left_lower, f.two, f.can.before.0.high, f.below.near, m.high, m.under.near, one.high, two.high, k.high), omega (arith, high, left_lower, f.two, f.can.before.0.high, f.below.near, m.high, m.under.near, one.high, two.high, k.high));
      }
