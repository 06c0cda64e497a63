-- A node taken out from among siblings or from below one of them, step by step.
use Rattle.std.specs.Prelude.{◌≡◌, ℕ, ◌+◌, ◌≤◌, ◌<◌, max, List, [], ◌∷◌, ◌++◌, slice_get, true, false, is_some}
use Rattle.std.proofs.Common.{sym, ap, subst, ◌∙◌, append_assoc, arith}
use Rattle.std.specs.declared.option.Option.TheVariants.{Some}
use Rattle.std.specs.declared.cmp.Ordering.{Ordering}
use Rattle.std.specs.declared.cmp.Ordering.TheVariants.{Less, Equal, Greater}
use Rattle.cp_path.specs.Text.{text_cmp}
use Rattle.cp_model.specs.declared.row.Content.TheVariants.{Node}
use Rattle.cp_model.specs.Place.{Label, Path, child}
use Rattle.cp_model.specs.Subtrees.{without, is_there}
use Rattle.cp_tree.specs.Branch.{branch}
use Rattle.cp_tree.specs.Good.{IsGood}
use Rattle.cp_tree.specs.Sums.{AreChildren}
use Rattle.cp_tree.proofs.BranchLemmas.{get-branch_child}
use Rattle.cp_tree.proofs.GoodLemmas.{IsNow}
use Rattle.cp_tree.proofs.SumsLemmas.{children_front, children_back}
use Rattle.cp_tree_arena.specs.declared.slot.Slot.{Slot}
use Rattle.cp_tree_arena.specs.declared.slot.SlotId.{SlotId}
use Rattle.cp_tree_arena.specs.declared.slot.Links.{Links}
use Rattle.cp_tree_arena.specs.Shapes.{Cell, Edges, Shape, Tip, Fork, number_of, height_of, cells, edges_of, Settles, IsSound}
use Rattle.cp_tree_arena.specs.Cells.{IsAt, Stand}
use Rattle.cp_tree_arena.specs.Linking.{linked_edges, CanLink, CanJoin}
use Rattle.cp_tree_arena.specs.Changes.{first_or, cut_under, CanCut, Cut}
use Rattle.cp_tree_arena.proofs.Held.{held_swapped}
use Rattle.cp_tree_arena.proofs.Sound.{held_as, link_node}
use Rattle.cp_tree_arena.proofs.Opening.{Opened}
use Rattle.cp_tree_arena.proofs.Settling.{lowered, turned}
use Rattle.cp_tree_arena.proofs.Changed.{cut_under-is}
use Rattle.cp_tree_arena.proofs.Parted.{cut_under-left, cut_under-right, cut_under-mid, cut_under-here, get_mid, there_left, there_right, there_any, now_children}

-- a node that is to be linked, beside one that was taken out with its children
pub record CutLink (slots : List Slot) (at gone : ℕ) (links : Links) (es : Edges) (h : ℕ → Type 0) (xs ys : List Cell) : Type 0 where
  pub s : Slot
  pub l : Shape
  pub c : Shape
  pub r : Shape
  pub out : Slot
  pub under : Shape
  pub can : CanLink 2 slots at links s l c r xs (((gone, out) ∷ cells under) ++ ys)
  pub edges : linked_edges s l c r ≡ es
  pub high : (n : ℕ) → Settles (height_of l) (height_of r) n → h n
  pub children : out.links.children.number ≡ number_of under
  pub sound : IsSound under

-- once it is linked
pub cut_linked : (slots : List Slot) (at gone : ℕ) (links : Links) (es : Edges) (h : ℕ → Type 0) (xs ys : List Cell) (k : CutLink slots at gone links es h xs ys) → (slots2 : List Slot) (root : ℕ) →
    Stand slots2 root (linked_edges k.s k.l k.c k.r) (Settles (height_of k.l) (height_of k.r)) xs (((gone, k.out) ∷ cells k.under) ++ ys) → Cut slots2 root gone es h xs ys
cut_linked slots at gone links es h xs ys k slots2 root w = record {
  shape = w.shape;
  s = k.out;
  c = k.under;
  holds = w.is.holds;
  root = w.is.root;
  sound = w.is.sound;
  children = k.children;
  below = k.sound;
  edges = w.edges ∙ k.edges;
  high = k.high (height_of w.shape) w.high;
}

module _ (slots : List Slot) (at : ℕ) (p : Path) (a : Label) (t : Shape) (xs ys : List Cell) (k : CanCut slots at p a t xs ys) where
  -- the siblings
  pub cut_at : IsAt slots at t xs ys
  cut_at = record { root = k.root; holds = k.holds; sound = k.sound }

  -- there are some
  pub cut_some : 0 < height_of t
  cut_some = by t k.sound k.there
    where
      none : (q : Path) → is_there (branch Node []) (child q a) ≡ true → false ≡ true
      none [] h = ap is_some (sym (get-branch_child Node [] a [] tt)) ∙ h
      none (b ∷ q) h = ap is_some (sym (get-branch_child Node [] b (child q a) tt)) ∙ h

      by : (u : Shape) → IsSound u → is_there (branch Node (edges_of u)) (child p a) ≡ true → 0 < height_of u
      by Tip f h = absurd (let no = none p h in cc)
      by (Fork n s l c r) f h = omega (arith, f.0.high)

  module _ (links : Links) (f : Opened slots at t xs ys links) where
    whole : edges_of t ≡ linked_edges f.s f.l f.c f.r
    whole = ap edges_of f.is

    there_parts : is_there (branch Node (linked_edges f.s f.l f.c f.r)) (child p a) ≡ true
    there_parts = ap (λ z. is_there (branch Node z) (child p a)) (sym whole) ∙ k.there

    small_parts : AreChildren (cut_under p a (linked_edges f.s f.l f.c f.r))
    small_parts = subst (λ z. AreChildren (cut_under p a z)) whole k.small

    -- the side on which the node stands that is to go
    pub old_side_of : (o : Ordering) → ((b : Slot) → slice_get slots at ≡ Some b → o ≡ text_cmp (first_or p a) b.label) → text_cmp (first_or p a) f.s.label ≡ o
    old_side_of o h = sym (h f.s (link_node 1 slots at links f.s f.l f.c f.r xs ys f.can))

    -- before the root
    module _ (lt : text_cmp (first_or p a) f.s.label ≡ Less) where
      left_is : cut_under p a (linked_edges f.s f.l f.c f.r) ≡ cut_under p a (edges_of f.l) ++ (f.s.label, branch f.s.content (edges_of f.c)) ∷ edges_of f.r
      left_is = cut_under-left (f.s.label, branch f.s.content (edges_of f.c)) (edges_of f.r) (edges_of f.l) f.can.edges.sorted p a lt

      pub cut_before : CanCut slots links.left.number p a f.l xs ((at, f.s) ∷ ((cells f.c ++ cells f.r) ++ ys))
      cut_before = record {
        holds = held_as slots (xs ++ ((cells f.l ++ (at, f.s) ∷ (cells f.c ++ cells f.r)) ++ ys)) (xs ++ (cells f.l ++ ((at, f.s) ∷ ((cells f.c ++ cells f.r) ++ ys)))) (simp append_assoc) f.can.holds;
        root = f.can.left;
        sound = f.can.before;
        there = sym (there_left (f.s.label, branch f.s.content (edges_of f.c)) (edges_of f.r) (edges_of f.l) f.can.edges.sorted p a lt) ∙ there_parts;
        small = children_front (cut_under p a (edges_of f.l)) ((f.s.label, branch f.s.content (edges_of f.c)) ∷ edges_of f.r) (subst AreChildren left_is small_parts);
      }

      pub link_before : (slots2 : List Slot) (left : SlotId) (gone : ℕ) → Cut slots2 left.number gone (cut_under p a (edges_of f.l)) (λ h. (h ≤ height_of f.l) × (height_of f.l ≤ h + 1)) xs ((at, f.s) ∷ ((cells f.c ++ cells f.r) ++ ys)) →
          CutLink slots2 at gone (record { left = left; children = links.children; right = links.right }) (cut_under p a (edges_of t)) (λ h. (h ≤ height_of t) × (height_of t ≤ h + 1)) xs ys
      link_before slots2 left gone w =
          let edges : linked_edges f.s w.shape f.c f.r ≡ cut_under p a (edges_of t) =
          ap (λ z. z ++ (f.s.label, branch f.s.content (edges_of f.c)) ∷ edges_of f.r) w.edges ∙ sym left_is ∙ ap (cut_under p a) (sym whole) in
          record {
            s = f.s;
            l = w.shape;
            c = f.c;
            r = f.r;
            out = w.s;
            under = w.c;
            can = record {
              holds = held_as slots2 ((xs ++ cells w.shape) ++ (((at, f.s) ∷ (cells f.c ++ cells f.r)) ++ (((gone, w.s) ∷ cells w.c) ++ ys))) (xs ++ ((cells w.shape ++ (at, f.s) ∷ (cells f.c ++ cells f.r)) ++ (((gone, w.s) ∷ cells w.c) ++ ys))) (simp append_assoc)
                  (held_swapped slots2 (xs ++ cells w.shape) ((gone, w.s) ∷ cells w.c) ((at, f.s) ∷ (cells f.c ++ cells f.r)) ys
                  (held_as slots2 (xs ++ (cells w.shape ++ (((gone, w.s) ∷ cells w.c) ++ ((at, f.s) ∷ ((cells f.c ++ cells f.r) ++ ys))))) ((xs ++ cells w.shape) ++ (((gone, w.s) ∷ cells w.c) ++ (((at, f.s) ∷ (cells f.c ++ cells f.r)) ++ ys))) (simp append_assoc) w.holds));
              left = w.root;
              children = f.can.children;
              right = f.can.right;
              before = w.sound;
              below = f.can.below;
              after = f.can.after;
              good = f.can.good;
              edges = subst AreChildren (sym edges) k.small;
              near = (omega (arith, f.can.near, w.high), omega (arith, f.can.near, w.high));
            };
            edges = edges;
            high = λ n z. lowered (height_of t) (height_of f.l) (height_of f.r) (height_of w.shape) n f.high f.can.near w.high z;
            children = w.children;
            sound = w.below;
          }

    -- after the root
    module _ (gt : text_cmp (first_or p a) f.s.label ≡ Greater) where
      right_is : cut_under p a (linked_edges f.s f.l f.c f.r) ≡ edges_of f.l ++ (f.s.label, branch f.s.content (edges_of f.c)) ∷ cut_under p a (edges_of f.r)
      right_is = cut_under-right (f.s.label, branch f.s.content (edges_of f.c)) (edges_of f.r) (edges_of f.l) f.can.edges.sorted p a gt

      pub cut_after : CanCut slots links.right.number p a f.r (xs ++ (cells f.l ++ (at, f.s) ∷ cells f.c)) ys
      cut_after = record {
        holds = held_as slots (xs ++ ((cells f.l ++ (at, f.s) ∷ (cells f.c ++ cells f.r)) ++ ys)) ((xs ++ (cells f.l ++ (at, f.s) ∷ cells f.c)) ++ (cells f.r ++ ys)) (simp append_assoc) f.can.holds;
        root = f.can.right;
        sound = f.can.after;
        there = sym (there_right (f.s.label, branch f.s.content (edges_of f.c)) (edges_of f.r) (edges_of f.l) f.can.edges.sorted p a gt) ∙ there_parts;
        small = children_back ((f.s.label, branch f.s.content (edges_of f.c)) ∷ []) (cut_under p a (edges_of f.r))
            (children_back (edges_of f.l) ((f.s.label, branch f.s.content (edges_of f.c)) ∷ cut_under p a (edges_of f.r)) (subst AreChildren right_is small_parts));
      }

      pub link_after : (slots2 : List Slot) (right : SlotId) (gone : ℕ) → Cut slots2 right.number gone (cut_under p a (edges_of f.r)) (λ h. (h ≤ height_of f.r) × (height_of f.r ≤ h + 1)) (xs ++ (cells f.l ++ (at, f.s) ∷ cells f.c)) ys →
          CutLink slots2 at gone (record { left = links.left; children = links.children; right = right }) (cut_under p a (edges_of t)) (λ h. (h ≤ height_of t) × (height_of t ≤ h + 1)) xs ys
      link_after slots2 right gone w =
          let edges : linked_edges f.s f.l f.c w.shape ≡ cut_under p a (edges_of t) =
          ap (λ z. edges_of f.l ++ (f.s.label, branch f.s.content (edges_of f.c)) ∷ z) w.edges ∙ sym right_is ∙ ap (cut_under p a) (sym whole) in
          record {
            s = f.s;
            l = f.l;
            c = f.c;
            r = w.shape;
            out = w.s;
            under = w.c;
            can = record {
              holds = held_as slots2 ((xs ++ (cells f.l ++ (at, f.s) ∷ cells f.c)) ++ (cells w.shape ++ (((gone, w.s) ∷ cells w.c) ++ ys))) (xs ++ ((cells f.l ++ (at, f.s) ∷ (cells f.c ++ cells w.shape)) ++ (((gone, w.s) ∷ cells w.c) ++ ys))) (simp append_assoc) w.holds;
              left = f.can.left;
              children = f.can.children;
              right = w.root;
              before = f.can.before;
              below = f.can.below;
              after = w.sound;
              good = f.can.good;
              edges = subst AreChildren (sym edges) k.small;
              near = (omega (arith, f.can.near, w.high), omega (arith, f.can.near, w.high));
            };
            edges = edges;
            high = λ n z. lowered (height_of t) (height_of f.r) (height_of f.l) (height_of w.shape) n (omega (arith, f.high)) (f.can.near.1, f.can.near.0) w.high (turned (height_of f.l) (height_of w.shape) n z);
            children = w.children;
            sound = w.below;
          }

    -- the root itself
    module _ (e : p ≡ []) (eq : text_cmp (first_or p a) f.s.label ≡ Equal) where
      here_is : cut_under p a (edges_of t) ≡ edges_of f.l ++ edges_of f.r
      here_is =
          ap (cut_under p a) whole ∙ ap (λ z. cut_under z a (linked_edges f.s f.l f.c f.r)) e
          ∙ cut_under-here (f.s.label, branch f.s.content (edges_of f.c)) (edges_of f.r) (edges_of f.l) f.can.edges.sorted a (subst (λ z. text_cmp (first_or z a) f.s.label ≡ Equal) e eq)

      pub join_here : CanJoin slots links.left.number links.right.number f.l f.r xs (((at, f.s) ∷ cells f.c) ++ ys)
      join_here = record {
        holds = held_as slots ((xs ++ cells f.l) ++ (cells f.r ++ (((at, f.s) ∷ cells f.c) ++ ys))) (xs ++ ((cells f.l ++ cells f.r) ++ (((at, f.s) ∷ cells f.c) ++ ys))) (simp append_assoc)
            (held_swapped slots (xs ++ cells f.l) ((at, f.s) ∷ cells f.c) (cells f.r) ys
            (held_as slots (xs ++ ((cells f.l ++ (at, f.s) ∷ (cells f.c ++ cells f.r)) ++ ys)) ((xs ++ cells f.l) ++ (((at, f.s) ∷ cells f.c) ++ (cells f.r ++ ys))) (simp append_assoc) f.can.holds));
        left = f.can.left;
        right = f.can.right;
        before = f.can.before;
        after = f.can.after;
        edges = subst AreChildren here_is k.small;
        near = f.can.near;
      }

      pub cut_here : (slots2 : List Slot) (root : ℕ) → Stand slots2 root (edges_of f.l ++ edges_of f.r) (λ h. (max (height_of f.l) (height_of f.r) ≤ h) × (h ≤ max (height_of f.l) (height_of f.r) + 1)) xs (((at, f.s) ∷ cells f.c) ++ ys) →
          Cut slots2 root at (cut_under p a (edges_of t)) (λ h. (h ≤ height_of t) × (height_of t ≤ h + 1)) xs ys
      cut_here slots2 root w = record {
        shape = w.shape;
        s = f.s;
        c = f.c;
        holds = w.is.holds;
        root = w.is.root;
        sound = w.is.sound;
        children = ap (λ z. z.children.number) (sym f.same) ∙ f.can.children;
        below = f.can.below;
        edges = w.edges ∙ sym here_is;
        high = (omega (arith, f.high, w.high), omega (arith, f.high, w.high));
      }

    -- below the root
    module _ (b : Label) (q : Path) (e : p ≡ b ∷ q) (eq : text_cmp (first_or p a) f.s.label ≡ Equal) where
      same_label : text_cmp b f.s.label ≡ Equal
      same_label = subst (λ z. text_cmp (first_or z a) f.s.label ≡ Equal) e eq

      there_child : is_there (branch f.s.content (edges_of f.c)) (child q a) ≡ true
      there_child =
          ap is_some (sym (get_mid (f.s.label, branch f.s.content (edges_of f.c)) (edges_of f.r) (edges_of f.l) f.can.edges.sorted b (child q a) same_label))
          ∙ subst (λ z. is_there (branch Node (linked_edges f.s f.l f.c f.r)) (child z a) ≡ true) e there_parts

      mid_is : cut_under p a (linked_edges f.s f.l f.c f.r) ≡ edges_of f.l ++ (f.s.label, without (child q a) (branch f.s.content (edges_of f.c))) ∷ edges_of f.r
      mid_is =
          ap (λ z. cut_under z a (linked_edges f.s f.l f.c f.r)) e
          ∙ cut_under-mid (f.s.label, branch f.s.content (edges_of f.c)) (edges_of f.r) (edges_of f.l) f.can.edges.sorted b q a same_label

      now : IsNow f.s.content (cut_under q a (edges_of f.c)) (without (child q a) (branch f.s.content (edges_of f.c)))
      now = cut_under-is f.s.content (edges_of f.c) f.can.good a q there_child

      pub cut_below : CanCut slots links.children.number q a f.c (xs ++ (cells f.l ++ (at, f.s) ∷ [])) (cells f.r ++ ys)
      cut_below = record {
        holds = held_as slots (xs ++ ((cells f.l ++ (at, f.s) ∷ (cells f.c ++ cells f.r)) ++ ys)) ((xs ++ (cells f.l ++ (at, f.s) ∷ [])) ++ (cells f.c ++ (cells f.r ++ ys))) (simp append_assoc) f.can.holds;
        root = f.can.children;
        sound = f.can.below;
        there = there_any Node f.s.content (edges_of f.c) f.can.good.sorted q a ∙ there_child;
        small = now_children (edges_of f.l) f.s.label (without (child q a) (branch f.s.content (edges_of f.c))) (edges_of f.r) f.s.content (cut_under q a (edges_of f.c)) now (subst AreChildren mid_is small_parts);
      }

      pub link_below : (slots2 : List Slot) (children : SlotId) (gone : ℕ) → Cut slots2 children.number gone (cut_under q a (edges_of f.c)) (λ h. (h ≤ height_of f.c) × (height_of f.c ≤ h + 1)) (xs ++ (cells f.l ++ (at, f.s) ∷ [])) (cells f.r ++ ys) →
          CutLink slots2 at gone (record { left = links.left; children = children; right = links.right }) (cut_under p a (edges_of t)) (λ h. (h ≤ height_of t) × (height_of t ≤ h + 1)) xs ys
      link_below slots2 children gone w =
          let edges : linked_edges f.s f.l w.shape f.r ≡ cut_under p a (edges_of t) =
          ap (λ z. edges_of f.l ++ (f.s.label, z) ∷ edges_of f.r) (ap (branch f.s.content) w.edges ∙ now.is) ∙ sym mid_is ∙ ap (cut_under p a) (sym whole) in
          record {
            s = f.s;
            l = f.l;
            c = w.shape;
            r = f.r;
            out = w.s;
            under = w.c;
            can = record {
              holds = held_as slots2 (((xs ++ (cells f.l ++ (at, f.s) ∷ [])) ++ cells w.shape) ++ (cells f.r ++ (((gone, w.s) ∷ cells w.c) ++ ys))) (xs ++ ((cells f.l ++ (at, f.s) ∷ (cells w.shape ++ cells f.r)) ++ (((gone, w.s) ∷ cells w.c) ++ ys))) (simp append_assoc)
                  (held_swapped slots2 ((xs ++ (cells f.l ++ (at, f.s) ∷ [])) ++ cells w.shape) ((gone, w.s) ∷ cells w.c) (cells f.r) ys
                  (held_as slots2 ((xs ++ (cells f.l ++ (at, f.s) ∷ [])) ++ (cells w.shape ++ (((gone, w.s) ∷ cells w.c) ++ (cells f.r ++ ys)))) (((xs ++ (cells f.l ++ (at, f.s) ∷ [])) ++ cells w.shape) ++ (((gone, w.s) ∷ cells w.c) ++ (cells f.r ++ ys))) (simp append_assoc) w.holds));
              left = f.can.left;
              children = w.root;
              right = f.can.right;
              before = f.can.before;
              below = w.sound;
              after = f.can.after;
              good = subst (IsGood f.s.content) (sym w.edges) now.good;
              edges = subst AreChildren (sym edges) k.small;
              near = (omega (arith, f.can.near), omega (arith, f.can.near));
            };
            edges = edges;
            high = λ n z. lowered (height_of t) (height_of f.l) (height_of f.r) (height_of f.l) n f.high f.can.near (omega arith, omega arith) z;
            children = w.children;
            sound = w.below;
          }
