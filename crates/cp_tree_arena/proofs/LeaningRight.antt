-- What a rotation links where the right side is two levels higher.
use Rattle.std.specs.Prelude.{◌≡◌, ◌+◌, ◌≤◌, ◌<◌, max, List, [], ◌∷◌, ◌++◌, slice_get}
use Rattle.std.proofs.Common.{sym, ap, subst, ◌∙◌, append_assoc, arith}
use Rattle.cp_tree.specs.Branch.{branch}
use Rattle.cp_tree.specs.Sums.{AreChildren}
use Rattle.cp_tree_arena.specs.declared.slot.Slot.{Slot}
use Rattle.cp_tree_arena.specs.declared.slot.SlotId.{SlotId}
use Rattle.cp_tree_arena.specs.declared.slot.Links.{Links}
use Rattle.cp_tree_arena.specs.Slots.{height_in, links_in}
use Rattle.cp_tree_arena.specs.Shapes.{Cell, Shape, Fork, height_of, cells, edges_of}
use Rattle.cp_tree_arena.specs.Cells.{IsAt, Stand}
use Rattle.cp_tree_arena.specs.Linking.{linked_edges, CanLink}
use Rattle.cp_tree_arena.proofs.Sound.{link_left, link_right, unlinked, held_as}
use Rattle.cp_tree_arena.proofs.Linked.{left_height, right_height}
use Rattle.cp_tree_arena.proofs.Leaning.{Top, top_of, links_read, edges_left, edges_right, regrouped}

-- the right side, two levels higher, and the links of its root
pub record RightTop (slots : List Slot) (id : SlotId) (links : Links) (s : Slot) (l c r : Shape) (xs ys : List Cell) (outer : Links) : Type 0 where
  pub sr : Slot
  pub rl : Shape
  pub cr : Shape
  pub rr : Shape
  pub is : r ≡ Fork links.right.number sr rl cr rr
  pub can : CanLink 2 slots id.number links s l c (Fork links.right.number sr rl cr rr) xs ys
  pub below : CanLink 1 slots links.right.number sr.links sr rl cr rr (xs ++ (cells l ++ (id.number, s) ∷ cells c)) ys
  pub same : outer ≡ sr.links
  pub two : sr.height ≡ height_of l + 2

right_from : (slots : List Slot) (id : SlotId) (links : Links) (s : Slot) (l c r : Shape) (xs ys : List Cell) (outer : Links) → CanLink 2 slots id.number links s l c r xs ys → (t : Top links.right.number r) →
    height_of r ≡ height_of l + 2 → outer ≡ links_in (slice_get slots links.right.number) → RightTop slots id links s l c r xs ys outer
right_from slots id links s l c r xs ys outer k t high e =
    let can : CanLink 2 slots id.number links s l c (Fork links.right.number t.s t.l t.c t.r) xs ys = subst (λ z. CanLink 2 slots id.number links s l c z xs ys) t.is k in
    let under = link_right 2 slots id.number links s l c (Fork links.right.number t.s t.l t.c t.r) xs ys can in
    record {
      sr = t.s;
      rl = t.l;
      cr = t.c;
      rr = t.r;
      is = t.is;
      can = can;
      below = unlinked slots links.right.number links.right.number t.s t.l t.c t.r (xs ++ (cells l ++ (id.number, s) ∷ cells c)) ys under;
      same = e ∙ links_read slots links.right.number links.right.number t.s t.l t.c t.r (xs ++ (cells l ++ (id.number, s) ∷ cells c)) ys under;
      two = sym (ap height_of t.is) ∙ high;
    }

pub right_top : (slots : List Slot) (id : SlotId) (links : Links) (s : Slot) (l c r : Shape) (xs ys : List Cell) (outer : Links) → CanLink 2 slots id.number links s l c r xs ys →
    height_in (slice_get slots links.right.number) ≡ height_in (slice_get slots links.left.number) + 2 → outer ≡ links_in (slice_get slots links.right.number) → RightTop slots id links s l c r xs ys outer
right_top slots id links s l c r xs ys outer k two e =
    let high : height_of r ≡ height_of l + 2 = omega (arith, two, left_height 2 slots id.number links s l c r xs ys k, right_height 2 slots id.number links s l c r xs ys k) in
    right_from slots id links s l c r xs ys outer k (top_of links.right.number r k.right (omega arith)) high e

module _ (slots : List Slot) (id : SlotId) (links : Links) (s : Slot) (l c r : Shape) (xs ys : List Cell) (outer : Links) (f : RightTop slots id links s l c r xs ys outer) where
  outer_left : height_in (slice_get slots outer.left.number) ≡ height_of f.rl
  outer_left = ap (λ z. height_in (slice_get slots z.left.number)) f.same ∙ left_height 1 slots links.right.number f.sr.links f.sr f.rl f.cr f.rr (xs ++ (cells l ++ (id.number, s) ∷ cells c)) ys f.below

  outer_right : height_in (slice_get slots outer.right.number) ≡ height_of f.rr
  outer_right = ap (λ z. height_in (slice_get slots z.right.number)) f.same ∙ right_height 1 slots links.right.number f.sr.links f.sr f.rl f.cr f.rr (xs ++ (cells l ++ (id.number, s) ∷ cells c)) ys f.below

  -- one rotation
  module _ (le : height_in (slice_get slots outer.left.number) ≤ height_in (slice_get slots outer.right.number)) where
    le_heights : height_of f.rl ≤ height_of f.rr
    le_heights = omega (arith, le, outer_left, outer_right)

    pub right_once_first : CanLink 1 slots id.number (record { left = links.left; children = links.children; right = outer.left }) s l c f.rl xs ((links.right.number, f.sr) ∷ ((cells f.cr ++ cells f.rr) ++ ys))
    right_once_first = record {
      holds = held_as slots (xs ++ ((cells l ++ (id.number, s) ∷ (cells c ++ cells (Fork links.right.number f.sr f.rl f.cr f.rr))) ++ ys)) (xs ++ ((cells l ++ (id.number, s) ∷ (cells c ++ cells f.rl)) ++ ((links.right.number, f.sr) ∷ ((cells f.cr ++ cells f.rr) ++ ys)))) (simp append_assoc) f.can.holds;
      left = f.can.left;
      children = f.can.children;
      right = ap (λ z. z.left.number) f.same ∙ f.below.left;
      before = f.can.before;
      below = f.can.below;
      after = f.below.before;
      good = f.can.good;
      edges = edges_left (edges_of l) (s.label, branch s.content (edges_of c)) (edges_of f.rl) ((f.sr.label, branch f.sr.content (edges_of f.cr)) ∷ edges_of f.rr) f.can.edges;
      near = (omega (arith, le_heights, f.two, f.can.after.0.high, f.below.near), omega (arith, le_heights, f.two, f.can.after.0.high, f.below.near));
    }

    module _ (slots2 : List Slot) (st : Stand slots2 id.number (linked_edges s l c f.rl) (λ h. h ≡ max (height_of l) (height_of f.rl) + 1) xs ((links.right.number, f.sr) ∷ ((cells f.cr ++ cells f.rr) ++ ys))) where
      right_once_edges : linked_edges f.sr st.shape f.cr f.rr ≡ linked_edges s l c (Fork links.right.number f.sr f.rl f.cr f.rr)
      right_once_edges =
          ap (λ z. z ++ (f.sr.label, branch f.sr.content (edges_of f.cr)) ∷ edges_of f.rr) st.edges
          ∙ append_assoc (edges_of l) ((s.label, branch s.content (edges_of c)) ∷ edges_of f.rl) ((f.sr.label, branch f.sr.content (edges_of f.cr)) ∷ edges_of f.rr)

      pub right_once_second : CanLink 1 slots2 links.right.number (record { left = id; children = outer.children; right = outer.right }) f.sr st.shape f.cr f.rr xs ys
      right_once_second = record {
        holds = held_as slots2 (xs ++ (cells st.shape ++ ((links.right.number, f.sr) ∷ ((cells f.cr ++ cells f.rr) ++ ys)))) (xs ++ ((cells st.shape ++ (links.right.number, f.sr) ∷ (cells f.cr ++ cells f.rr)) ++ ys)) (simp append_assoc) st.is.holds;
        left = st.is.root;
        children = ap (λ z. z.children.number) f.same ∙ f.below.children;
        right = ap (λ z. z.right.number) f.same ∙ f.below.right;
        before = st.is.sound;
        below = f.below.below;
        after = f.below.after;
        good = f.below.good;
        edges = subst AreChildren (sym right_once_edges) f.can.edges;
        near = (omega (arith, le_heights, f.two, f.can.after.0.high, f.below.near, st.high), omega (arith, le_heights, f.two, f.can.after.0.high, f.below.near, st.high));
      }

      pub right_once : (slots3 : List Slot) → Stand slots3 links.right.number (linked_edges f.sr st.shape f.cr f.rr) (λ h. h ≡ max (height_of st.shape) (height_of f.rr) + 1) xs ys →
          Stand slots3 links.right.number (linked_edges s l c r) (λ h. (height_of r ≤ h) × (h ≤ height_of r + 1)) xs ys
      right_once slots3 k = record {
        shape = k.shape;
        is = k.is;
        edges = k.edges ∙ right_once_edges ∙ ap (λ z. linked_edges s l c z) (sym f.is);
        high = let high : height_of r ≡ f.sr.height = ap height_of f.is in
            (omega (arith, high, le_heights, f.two, f.can.after.0.high, f.below.near, st.high, k.high), omega (arith, high, le_heights, f.two, f.can.after.0.high, f.below.near, st.high, k.high));
      }

-- the inner side of the right one, and the links of its root
pub record RightMiddle (slots : List Slot) (id : SlotId) (links : Links) (s : Slot) (l c r : Shape) (xs ys : List Cell) (outer : Links) (f : RightTop slots id links s l c r xs ys outer) (inner : Links) : Type 0 where
  pub sm : Slot
  pub ml : Shape
  pub cm : Shape
  pub mr : Shape
  pub is : f.rl ≡ Fork outer.left.number sm ml cm mr
  pub under : CanLink 1 slots outer.left.number sm.links sm ml cm mr (xs ++ (cells l ++ (id.number, s) ∷ cells c)) ((links.right.number, f.sr) ∷ ((cells f.cr ++ cells f.rr) ++ ys))
  pub alike : inner ≡ sm.links
  pub high : height_of f.rl ≡ max (height_of ml) (height_of mr) + 1

right_middle_from : (slots : List Slot) (id : SlotId) (links : Links) (s : Slot) (l c r : Shape) (xs ys : List Cell) (outer : Links) (f : RightTop slots id links s l c r xs ys outer) (inner : Links) (t : Top outer.left.number f.rl) →
    IsAt slots outer.left.number f.rl (xs ++ (cells l ++ (id.number, s) ∷ cells c)) ((links.right.number, f.sr) ∷ ((cells f.cr ++ cells f.rr) ++ ys)) → inner ≡ links_in (slice_get slots outer.left.number) →
    RightMiddle slots id links s l c r xs ys outer f inner
right_middle_from slots id links s l c r xs ys outer f inner t at e =
    let before : List Cell = xs ++ (cells l ++ (id.number, s) ∷ cells c) in
    let after : List Cell = (links.right.number, f.sr) ∷ ((cells f.cr ++ cells f.rr) ++ ys) in
    let stands : IsAt slots outer.left.number (Fork outer.left.number t.s t.l t.c t.r) before after = subst (λ z. IsAt slots outer.left.number z before after) t.is at in
    record {
      sm = t.s;
      ml = t.l;
      cm = t.c;
      mr = t.r;
      is = t.is;
      under = unlinked slots outer.left.number outer.left.number t.s t.l t.c t.r before after stands;
      alike = e ∙ links_read slots outer.left.number outer.left.number t.s t.l t.c t.r before after stands;
      high = ap height_of t.is ∙ stands.sound.0.high;
    }

pub right_middle : (slots : List Slot) (id : SlotId) (links : Links) (s : Slot) (l c r : Shape) (xs ys : List Cell) (outer : Links) (f : RightTop slots id links s l c r xs ys outer) (inner : Links) →
    height_in (slice_get slots outer.right.number) < height_in (slice_get slots outer.left.number) → inner ≡ links_in (slice_get slots outer.left.number) → RightMiddle slots id links s l c r xs ys outer f inner
right_middle slots id links s l c r xs ys outer f inner lt e =
    let before : List Cell = xs ++ (cells l ++ (id.number, s) ∷ cells c) in
    right_middle_from slots id links s l c r xs ys outer f inner
    (top_of outer.left.number f.rl (ap (λ z. z.left.number) f.same ∙ f.below.left) (omega (arith, lt, outer_left slots id links s l c r xs ys outer f)))
    (subst (λ z. IsAt slots z.left.number f.rl before ((links.right.number, f.sr) ∷ ((cells f.cr ++ cells f.rr) ++ ys))) (sym f.same) (link_left 1 slots links.right.number f.sr.links f.sr f.rl f.cr f.rr before ys f.below))
    e

module _ (slots : List Slot) (id : SlotId) (links : Links) (s : Slot) (l c r : Shape) (xs ys : List Cell) (outer : Links) (f : RightTop slots id links s l c r xs ys outer) (inner : Links) (m : RightMiddle slots id links s l c r xs ys outer f inner)
    (lt : height_in (slice_get slots outer.right.number) < height_in (slice_get slots outer.left.number)) where
  right_lower : height_of f.rr < height_of f.rl
  right_lower = omega (arith, lt, outer_left slots id links s l c r xs ys outer f, outer_right slots id links s l c r xs ys outer f)

  right_all : AreChildren (edges_of l ++ (s.label, branch s.content (edges_of c)) ∷ ((edges_of m.ml ++ (m.sm.label, branch m.sm.content (edges_of m.cm)) ∷ edges_of m.mr) ++ (f.sr.label, branch f.sr.content (edges_of f.cr)) ∷ edges_of f.rr))
  right_all = subst (λ z. AreChildren (edges_of l ++ (s.label, branch s.content (edges_of c)) ∷ (edges_of z ++ (f.sr.label, branch f.sr.content (edges_of f.cr)) ∷ edges_of f.rr))) m.is f.can.edges

  pub right_twice_first : CanLink 1 slots id.number (record { left = links.left; children = links.children; right = inner.left }) s l c m.ml xs ((outer.left.number, m.sm) ∷ ((cells m.cm ++ cells m.mr) ++ ((links.right.number, f.sr) ∷ ((cells f.cr ++ cells f.rr) ++ ys))))
  right_twice_first = record {
    holds = held_as slots
        ((xs ++ (cells l ++ (id.number, s) ∷ cells c)) ++ ((cells m.ml ++ (outer.left.number, m.sm) ∷ (cells m.cm ++ cells m.mr)) ++ ((links.right.number, f.sr) ∷ ((cells f.cr ++ cells f.rr) ++ ys))))
        (xs ++ ((cells l ++ (id.number, s) ∷ (cells c ++ cells m.ml)) ++ ((outer.left.number, m.sm) ∷ ((cells m.cm ++ cells m.mr) ++ ((links.right.number, f.sr) ∷ ((cells f.cr ++ cells f.rr) ++ ys))))))
        (simp append_assoc) m.under.holds;
    left = f.can.left;
    children = f.can.children;
    right = ap (λ z. z.left.number) m.alike ∙ m.under.left;
    before = f.can.before;
    below = f.can.below;
    after = m.under.before;
    good = f.can.good;
    edges = edges_left (edges_of l) (s.label, branch s.content (edges_of c)) (edges_of m.ml) ((m.sm.label, branch m.sm.content (edges_of m.cm)) ∷ (edges_of m.mr ++ (f.sr.label, branch f.sr.content (edges_of f.cr)) ∷ edges_of f.rr))
        (subst (λ z. AreChildren (edges_of l ++ (s.label, branch s.content (edges_of c)) ∷ z)) (append_assoc (edges_of m.ml) ((m.sm.label, branch m.sm.content (edges_of m.cm)) ∷ edges_of m.mr) ((f.sr.label, branch f.sr.content (edges_of f.cr)) ∷ edges_of f.rr)) right_all);
    near = (omega (arith, right_lower, f.two, f.can.after.0.high, f.below.near, m.high, m.under.near), omega (arith, right_lower, f.two, f.can.after.0.high, f.below.near, m.high, m.under.near));
  }

  module _ (slots2 : List Slot) (one : Stand slots2 id.number (linked_edges s l c m.ml) (λ h. h ≡ max (height_of l) (height_of m.ml) + 1) xs ((outer.left.number, m.sm) ∷ ((cells m.cm ++ cells m.mr) ++ ((links.right.number, f.sr) ∷ ((cells f.cr ++ cells f.rr) ++ ys))))) where
    pub right_twice_second : CanLink 1 slots2 links.right.number (record { left = inner.right; children = outer.children; right = outer.right }) f.sr m.mr f.cr f.rr (xs ++ (cells one.shape ++ (outer.left.number, m.sm) ∷ cells m.cm)) ys
    right_twice_second = record {
      holds = held_as slots2
          (xs ++ (cells one.shape ++ ((outer.left.number, m.sm) ∷ ((cells m.cm ++ cells m.mr) ++ ((links.right.number, f.sr) ∷ ((cells f.cr ++ cells f.rr) ++ ys))))))
          ((xs ++ (cells one.shape ++ (outer.left.number, m.sm) ∷ cells m.cm)) ++ ((cells m.mr ++ (links.right.number, f.sr) ∷ (cells f.cr ++ cells f.rr)) ++ ys))
          (simp append_assoc) one.is.holds;
      left = ap (λ z. z.right.number) m.alike ∙ m.under.right;
      children = ap (λ z. z.children.number) f.same ∙ f.below.children;
      right = ap (λ z. z.right.number) f.same ∙ f.below.right;
      before = m.under.after;
      below = f.below.below;
      after = f.below.after;
      good = f.below.good;
      edges = edges_right (edges_of m.ml) (m.sm.label, branch m.sm.content (edges_of m.cm)) (edges_of m.mr) ((f.sr.label, branch f.sr.content (edges_of f.cr)) ∷ edges_of f.rr)
          (edges_right (edges_of l) (s.label, branch s.content (edges_of c)) [] ((edges_of m.ml ++ (m.sm.label, branch m.sm.content (edges_of m.cm)) ∷ edges_of m.mr) ++ (f.sr.label, branch f.sr.content (edges_of f.cr)) ∷ edges_of f.rr)
          (subst AreChildren (sym (append_assoc (edges_of l) ((s.label, branch s.content (edges_of c)) ∷ []) ((edges_of m.ml ++ (m.sm.label, branch m.sm.content (edges_of m.cm)) ∷ edges_of m.mr) ++ (f.sr.label, branch f.sr.content (edges_of f.cr)) ∷ edges_of f.rr))) right_all));
      near = (omega (arith, right_lower, f.two, f.can.after.0.high, f.below.near, m.high, m.under.near), omega (arith, right_lower, f.two, f.can.after.0.high, f.below.near, m.high, m.under.near));
    }

    module _ (slots3 : List Slot) (two : Stand slots3 links.right.number (linked_edges f.sr m.mr f.cr f.rr) (λ h. h ≡ max (height_of m.mr) (height_of f.rr) + 1) (xs ++ (cells one.shape ++ (outer.left.number, m.sm) ∷ cells m.cm)) ys) where
      right_twice_edges : linked_edges m.sm one.shape m.cm two.shape ≡ linked_edges s l c (Fork links.right.number f.sr f.rl f.cr f.rr)
      right_twice_edges =
          ap (λ z. z ++ (m.sm.label, branch m.sm.content (edges_of m.cm)) ∷ edges_of two.shape) one.edges
          ∙ ap (λ z. linked_edges s l c m.ml ++ (m.sm.label, branch m.sm.content (edges_of m.cm)) ∷ z) two.edges
          ∙ regrouped (edges_of l) (s.label, branch s.content (edges_of c)) (edges_of m.ml) (m.sm.label, branch m.sm.content (edges_of m.cm)) (edges_of m.mr) (f.sr.label, branch f.sr.content (edges_of f.cr)) (edges_of f.rr)
          ∙ append_assoc (edges_of l) ((s.label, branch s.content (edges_of c)) ∷ (edges_of m.ml ++ (m.sm.label, branch m.sm.content (edges_of m.cm)) ∷ edges_of m.mr)) ((f.sr.label, branch f.sr.content (edges_of f.cr)) ∷ edges_of f.rr)
          ∙ ap (λ z. edges_of l ++ (s.label, branch s.content (edges_of c)) ∷ (edges_of z ++ (f.sr.label, branch f.sr.content (edges_of f.cr)) ∷ edges_of f.rr)) (sym m.is)

      pub right_twice_third : CanLink 1 slots3 outer.left.number (record { left = id; children = inner.children; right = links.right }) m.sm one.shape m.cm two.shape xs ys
      right_twice_third = record {
        holds = held_as slots3
            ((xs ++ (cells one.shape ++ (outer.left.number, m.sm) ∷ cells m.cm)) ++ (cells two.shape ++ ys))
            (xs ++ ((cells one.shape ++ (outer.left.number, m.sm) ∷ (cells m.cm ++ cells two.shape)) ++ ys))
            (simp append_assoc) two.is.holds;
        left = one.is.root;
        children = ap (λ z. z.children.number) m.alike ∙ m.under.children;
        right = two.is.root;
        before = one.is.sound;
        below = m.under.below;
        after = two.is.sound;
        good = m.under.good;
        edges = subst AreChildren (sym right_twice_edges) f.can.edges;
        near = (omega (arith, right_lower, f.two, f.can.after.0.high, f.below.near, m.high, m.under.near, one.high, two.high), omega (arith, right_lower, f.two, f.can.after.0.high, f.below.near, m.high, m.under.near, one.high, two.high));
      }

      pub right_twice : (slots4 : List Slot) → Stand slots4 outer.left.number (linked_edges m.sm one.shape m.cm two.shape) (λ h. h ≡ max (height_of one.shape) (height_of two.shape) + 1) xs ys →
          Stand slots4 outer.left.number (linked_edges s l c r) (λ h. (height_of r ≤ h) × (h ≤ height_of r + 1)) xs ys
      right_twice slots4 k = record {
        shape = k.shape;
        is = k.is;
        edges = k.edges ∙ right_twice_edges ∙ ap (λ z. linked_edges s l c z) (sym f.is);
        high = let high : height_of r ≡ f.sr.height = ap height_of f.is in
            (omega (arith, high, right_lower, f.two, f.can.after.0.high, f.below.near, m.high, m.under.near, one.high, two.high, k.high), omega (arith, high, right_lower, f.two, f.can.after.0.high, f.below.near, m.high, m.under.near, one.high, two.high, k.high));
      }
