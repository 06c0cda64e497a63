-- A node put among siblings or below one of them, step by step.
use Rattle.std.specs.Prelude.{◌≡◌, ℕ, ◌+◌, ◌≤◌, ◌<◌, List, [], ◌∷◌, ◌++◌, length, slice_get, true, false, is_some, refl}
use Rattle.std.proofs.Common.{sym, ap, subst, ◌∙◌, append_assoc, arith}
use Rattle.std.specs.declared.option.Option.TheVariants.{Some}
use Rattle.std.specs.declared.cmp.Ordering.{Ordering}
use Rattle.std.specs.declared.cmp.Ordering.TheVariants.{Less, Equal, Greater}
use Rattle.cp_path.specs.Text.{text_cmp}
use Rattle.cp_model.specs.declared.row.Content.TheVariants.{Node}
use Rattle.cp_model.specs.Place.{Label, Path, child}
use Rattle.cp_model.specs.Keyed.{get, entries}
use Rattle.cp_model.specs.Subtrees.{with_subtree, is_there}
use Rattle.cp_model.specs.Tree.{IsRooted}
use Rattle.cp_tree.specs.Branch.{branch}
use Rattle.cp_tree.specs.Good.{IsGood}
use Rattle.cp_tree.specs.Sums.{AreChildren}
use Rattle.cp_tree.proofs.BranchLemmas.{get-branch_root, get-branch_child}
use Rattle.cp_tree.proofs.GoodLemmas.{IsNow, rooted-branch}
use Rattle.cp_tree.proofs.SumsLemmas.{children_front, children_back}
use Rattle.cp_tree_arena.specs.declared.slot.Slot.{Slot}
use Rattle.cp_tree_arena.specs.declared.slot.SlotId.{SlotId}
use Rattle.cp_tree_arena.specs.declared.slot.Links.{Links}
use Rattle.cp_tree_arena.specs.Slots.{NO_SLOT}
use Rattle.cp_tree_arena.specs.Shapes.{Cell, Edges, Shape, Tip, Fork, height_of, cells, edges_of, Settles}
use Rattle.cp_tree_arena.specs.Cells.{Holds, IsAt, Stand}
use Rattle.cp_tree_arena.specs.Linking.{linked_edges, CanLink}
use Rattle.cp_tree_arena.specs.Changes.{first_or, put_under, CanPut}
use Rattle.cp_tree_arena.proofs.Held.{held_at, held_within, held_swapped}
use Rattle.cp_tree_arena.proofs.Sound.{held_as, link_node}
use Rattle.cp_tree_arena.proofs.Opening.{Opened, tip_of}
use Rattle.cp_tree_arena.proofs.Settling.{raised, turned}
use Rattle.cp_tree_arena.proofs.Changed.{put_under-is}
use Rattle.cp_tree_arena.proofs.Parted.{put_under-left, put_under-right, put_under-mid, get_mid, node_left, node_right, there_left, there_right, there_any, node_any, now_children}

-- a node that is to be linked, so that the siblings have these edges, and such a height once it is
pub record Relinked (slots : List Slot) (at : ℕ) (links : Links) (es : Edges) (h : ℕ → Type 0) (xs ys : List Cell) : Type 0 where
  pub s : Slot
  pub l : Shape
  pub c : Shape
  pub r : Shape
  pub can : CanLink 2 slots at links s l c r xs ys
  pub edges : linked_edges s l c r ≡ es
  pub high : (n : ℕ) → Settles (height_of l) (height_of r) n → h n

-- once it is
pub relinked : (slots : List Slot) (at : ℕ) (links : Links) (es : Edges) (h : ℕ → Type 0) (xs ys : List Cell) (k : Relinked slots at links es h xs ys) → (slots2 : List Slot) (root : ℕ) →
    Stand slots2 root (linked_edges k.s k.l k.c k.r) (Settles (height_of k.l) (height_of k.r)) xs ys → Stand slots2 root es h xs ys
relinked slots at links es h xs ys k slots2 root w = record { shape = w.shape; is = w.is; edges = w.edges ∙ k.edges; high = k.high (height_of w.shape) w.high }

module _ (slots : List Slot) (at new : ℕ) (p : Path) (s : Slot) (c t : Shape) (xs ys : List Cell) (k : CanPut slots at new p s c t xs ys) where
  -- the siblings
  pub put_at : IsAt slots at t xs (((new, s) ∷ cells c) ++ ys)
  put_at = record { root = k.root; holds = k.holds; sound = k.sound }

  new_cell : Holds slots ((xs ++ cells t) ++ (new, s) ∷ (cells c ++ ys))
  new_cell = held_as slots (xs ++ (cells t ++ (((new, s) ∷ cells c) ++ ys))) ((xs ++ cells t) ++ (new, s) ∷ (cells c ++ ys)) (simp append_assoc) k.holds

  -- the new node's slot
  new_slot : slice_get slots new ≡ Some s
  new_slot = held_at slots (xs ++ cells t) (new, s) (cells c ++ ys) new_cell

  pub new_within : new < length slots
  new_within = held_within slots (xs ++ cells t) (new, s) (cells c ++ ys) new_cell

  new_rooted : IsRooted (branch s.content (edges_of c))
  new_rooted = rooted-branch s.content (edges_of c) k.alone.0.good

  -- there are no siblings
  pub put_alone : at ≡ NO_SLOT → Stand slots new (put_under p s.label (branch s.content (edges_of c)) (edges_of t)) (λ h. (height_of t ≤ h) × (h ≤ height_of t + 1)) xs ys
  put_alone none =
      let tip = tip_of slots at t xs (((new, s) ∷ cells c) ++ ys) put_at none in
      record {
        shape = Fork new s Tip c Tip;
        is = record {
          root = refl;
          holds = held_as slots (xs ++ (((new, s) ∷ cells c) ++ ys)) (xs ++ (((new, s) ∷ (cells c ++ [])) ++ ys)) (simp append_assoc) (subst (λ z. Holds slots (xs ++ (cells z ++ (((new, s) ∷ cells c) ++ ys)))) tip k.holds);
          sound = k.alone;
        };
        edges = sym (ap (λ z. put_under p s.label (branch s.content (edges_of c)) (edges_of z)) tip ∙ alone p (subst (λ z. get (branch Node (edges_of z)) p ≡ Some Node) tip k.node));
        high = (omega (arith, k.alone.0.high, ap height_of tip), omega (arith, k.alone.0.high, ap height_of tip));
      }
    where
      alone : (q : Path) → get (branch Node []) q ≡ Some Node → put_under q s.label (branch s.content (edges_of c)) [] ≡ (s.label, branch s.content (edges_of c)) ∷ []
      alone [] h = refl
      alone (b ∷ q) h = absurd (let none = sym (get-branch_child Node [] b q tt) ∙ h in cc)

  module _ (links : Links) (f : Opened slots at t xs (((new, s) ∷ cells c) ++ ys) links) where
    -- the edges fall into three parts
    whole : edges_of t ≡ linked_edges f.s f.l f.c f.r
    whole = ap edges_of f.is

    node_parts : get (branch Node (linked_edges f.s f.l f.c f.r)) p ≡ Some Node
    node_parts = ap (λ z. get (branch Node z) p) (sym whole) ∙ k.node

    free_parts : is_there (branch Node (linked_edges f.s f.l f.c f.r)) (child p s.label) ≡ false
    free_parts = ap (λ z. is_there (branch Node z) (child p s.label)) (sym whole) ∙ k.free

    small_parts : AreChildren (put_under p s.label (branch s.content (edges_of c)) (linked_edges f.s f.l f.c f.r))
    small_parts = subst (λ z. AreChildren (put_under p s.label (branch s.content (edges_of c)) z)) whole k.small

    -- the side on which the new node is to stand
    pub side_of : (o : Ordering) → ((a b : Slot) → slice_get slots at ≡ Some a → slice_get slots new ≡ Some b → o ≡ text_cmp (first_or p b.label) a.label) → text_cmp (first_or p s.label) f.s.label ≡ o
    side_of o h = sym (h f.s s (link_node 1 slots at links f.s f.l f.c f.r xs (((new, s) ∷ cells c) ++ ys) f.can) new_slot)

    held_parts : Holds slots (xs ++ ((cells f.l ++ (at, f.s) ∷ (cells f.c ++ cells f.r)) ++ (((new, s) ∷ cells c) ++ ys)))
    held_parts = f.can.holds

    -- before the root
    module _ (lt : text_cmp (first_or p s.label) f.s.label ≡ Less) where
      left_is : put_under p s.label (branch s.content (edges_of c)) (linked_edges f.s f.l f.c f.r) ≡ put_under p s.label (branch s.content (edges_of c)) (edges_of f.l) ++ (f.s.label, branch f.s.content (edges_of f.c)) ∷ edges_of f.r
      left_is = put_under-left (f.s.label, branch f.s.content (edges_of f.c)) (edges_of f.r) (edges_of f.l) f.can.edges.sorted p s.label (branch s.content (edges_of c)) lt

      pub put_before : CanPut slots links.left.number new p s c f.l xs ((at, f.s) ∷ ((cells f.c ++ cells f.r) ++ ys))
      put_before = record {
        holds = held_as slots ((xs ++ cells f.l) ++ (((new, s) ∷ cells c) ++ (((at, f.s) ∷ (cells f.c ++ cells f.r)) ++ ys))) (xs ++ (cells f.l ++ (((new, s) ∷ cells c) ++ ((at, f.s) ∷ ((cells f.c ++ cells f.r) ++ ys))))) (simp append_assoc)
            (held_swapped slots (xs ++ cells f.l) ((at, f.s) ∷ (cells f.c ++ cells f.r)) ((new, s) ∷ cells c) ys
            (held_as slots (xs ++ ((cells f.l ++ (at, f.s) ∷ (cells f.c ++ cells f.r)) ++ (((new, s) ∷ cells c) ++ ys))) ((xs ++ cells f.l) ++ (((at, f.s) ∷ (cells f.c ++ cells f.r)) ++ (((new, s) ∷ cells c) ++ ys))) (simp append_assoc) held_parts));
        root = f.can.left;
        sound = f.can.before;
        alone = k.alone;
        node = node_left (f.s.label, branch f.s.content (edges_of f.c)) (edges_of f.r) (edges_of f.l) f.can.edges.sorted p s.label lt node_parts;
        free = sym (there_left (f.s.label, branch f.s.content (edges_of f.c)) (edges_of f.r) (edges_of f.l) f.can.edges.sorted p s.label lt) ∙ free_parts;
        small = children_front (put_under p s.label (branch s.content (edges_of c)) (edges_of f.l)) ((f.s.label, branch f.s.content (edges_of f.c)) ∷ edges_of f.r) (subst AreChildren left_is small_parts);
      }

      pub relinked_before : (slots2 : List Slot) (left : SlotId) → Stand slots2 left.number (put_under p s.label (branch s.content (edges_of c)) (edges_of f.l)) (λ h. (height_of f.l ≤ h) × (h ≤ height_of f.l + 1)) xs ((at, f.s) ∷ ((cells f.c ++ cells f.r) ++ ys)) →
          Relinked slots2 at (record { left = left; children = links.children; right = links.right }) (put_under p s.label (branch s.content (edges_of c)) (edges_of t)) (λ h. (height_of t ≤ h) × (h ≤ height_of t + 1)) xs ys
      relinked_before slots2 left w =
          let edges : linked_edges f.s w.shape f.c f.r ≡ put_under p s.label (branch s.content (edges_of c)) (edges_of t) =
          ap (λ z. z ++ (f.s.label, branch f.s.content (edges_of f.c)) ∷ edges_of f.r) w.edges ∙ sym left_is ∙ ap (put_under p s.label (branch s.content (edges_of c))) (sym whole) in
          record {
            s = f.s;
            l = w.shape;
            c = f.c;
            r = f.r;
            can = record {
              holds = held_as slots2 (xs ++ (cells w.shape ++ ((at, f.s) ∷ ((cells f.c ++ cells f.r) ++ ys)))) (xs ++ ((cells w.shape ++ (at, f.s) ∷ (cells f.c ++ cells f.r)) ++ ys)) (simp append_assoc) w.is.holds;
              left = w.is.root;
              children = f.can.children;
              right = f.can.right;
              before = w.is.sound;
              below = f.can.below;
              after = f.can.after;
              good = f.can.good;
              edges = subst AreChildren (sym edges) k.small;
              near = (omega (arith, f.can.near, w.high), omega (arith, f.can.near, w.high));
            };
            edges = edges;
            high = λ n z. raised (height_of t) (height_of f.l) (height_of f.r) (height_of w.shape) n f.high f.can.near w.high z;
          }

    -- after the root
    module _ (gt : text_cmp (first_or p s.label) f.s.label ≡ Greater) where
      right_is : put_under p s.label (branch s.content (edges_of c)) (linked_edges f.s f.l f.c f.r) ≡ edges_of f.l ++ (f.s.label, branch f.s.content (edges_of f.c)) ∷ put_under p s.label (branch s.content (edges_of c)) (edges_of f.r)
      right_is = put_under-right (f.s.label, branch f.s.content (edges_of f.c)) (edges_of f.r) (edges_of f.l) f.can.edges.sorted p s.label (branch s.content (edges_of c)) gt

      pub put_after : CanPut slots links.right.number new p s c f.r (xs ++ (cells f.l ++ (at, f.s) ∷ cells f.c)) ys
      put_after = record {
        holds = held_as slots (xs ++ ((cells f.l ++ (at, f.s) ∷ (cells f.c ++ cells f.r)) ++ (((new, s) ∷ cells c) ++ ys))) ((xs ++ (cells f.l ++ (at, f.s) ∷ cells f.c)) ++ (cells f.r ++ (((new, s) ∷ cells c) ++ ys))) (simp append_assoc) held_parts;
        root = f.can.right;
        sound = f.can.after;
        alone = k.alone;
        node = node_right (f.s.label, branch f.s.content (edges_of f.c)) (edges_of f.r) (edges_of f.l) f.can.edges.sorted p s.label gt node_parts;
        free = sym (there_right (f.s.label, branch f.s.content (edges_of f.c)) (edges_of f.r) (edges_of f.l) f.can.edges.sorted p s.label gt) ∙ free_parts;
        small = children_back ((f.s.label, branch f.s.content (edges_of f.c)) ∷ []) (put_under p s.label (branch s.content (edges_of c)) (edges_of f.r))
            (children_back (edges_of f.l) ((f.s.label, branch f.s.content (edges_of f.c)) ∷ put_under p s.label (branch s.content (edges_of c)) (edges_of f.r)) (subst AreChildren right_is small_parts));
      }

      pub relinked_after : (slots2 : List Slot) (right : SlotId) → Stand slots2 right.number (put_under p s.label (branch s.content (edges_of c)) (edges_of f.r)) (λ h. (height_of f.r ≤ h) × (h ≤ height_of f.r + 1)) (xs ++ (cells f.l ++ (at, f.s) ∷ cells f.c)) ys →
          Relinked slots2 at (record { left = links.left; children = links.children; right = right }) (put_under p s.label (branch s.content (edges_of c)) (edges_of t)) (λ h. (height_of t ≤ h) × (h ≤ height_of t + 1)) xs ys
      relinked_after slots2 right w =
          let edges : linked_edges f.s f.l f.c w.shape ≡ put_under p s.label (branch s.content (edges_of c)) (edges_of t) =
          ap (λ z. edges_of f.l ++ (f.s.label, branch f.s.content (edges_of f.c)) ∷ z) w.edges ∙ sym right_is ∙ ap (put_under p s.label (branch s.content (edges_of c))) (sym whole) in
          record {
            s = f.s;
            l = f.l;
            c = f.c;
            r = w.shape;
            can = record {
              holds = held_as slots2 ((xs ++ (cells f.l ++ (at, f.s) ∷ cells f.c)) ++ (cells w.shape ++ ys)) (xs ++ ((cells f.l ++ (at, f.s) ∷ (cells f.c ++ cells w.shape)) ++ ys)) (simp append_assoc) w.is.holds;
              left = f.can.left;
              children = f.can.children;
              right = w.is.root;
              before = f.can.before;
              below = f.can.below;
              after = w.is.sound;
              good = f.can.good;
              edges = subst AreChildren (sym edges) k.small;
              near = (omega (arith, f.can.near, w.high), omega (arith, f.can.near, w.high));
            };
            edges = edges;
            high = λ n z. raised (height_of t) (height_of f.r) (height_of f.l) (height_of w.shape) n (omega (arith, f.high)) (f.can.near.1, f.can.near.0) w.high (turned (height_of f.l) (height_of w.shape) n z);
          }

    -- at the root's label, where the place ends: something stands there
    pub put_none : p ≡ [] → text_cmp (first_or p s.label) f.s.label ≡ Equal → false ≡ true
    put_none e eq =
        let here : text_cmp s.label f.s.label ≡ Equal = subst (λ z. text_cmp (first_or z s.label) f.s.label ≡ Equal) e eq in
        let free : is_there (branch Node (linked_edges f.s f.l f.c f.r)) (s.label ∷ []) ≡ false = subst (λ z. is_there (branch Node (linked_edges f.s f.l f.c f.r)) (child z s.label) ≡ false) e free_parts in
        sym free ∙ ap is_some (get_mid (f.s.label, branch f.s.content (edges_of f.c)) (edges_of f.r) (edges_of f.l) f.can.edges.sorted s.label [] here ∙ get-branch_root f.s.content (edges_of f.c))

    -- below the root
    module _ (b : Label) (q : Path) (e : p ≡ b ∷ q) (eq : text_cmp (first_or p s.label) f.s.label ≡ Equal) where
      same_label : text_cmp b f.s.label ≡ Equal
      same_label = subst (λ z. text_cmp (first_or z s.label) f.s.label ≡ Equal) e eq

      node_child : get (branch f.s.content (edges_of f.c)) q ≡ Some Node
      node_child =
          sym (get_mid (f.s.label, branch f.s.content (edges_of f.c)) (edges_of f.r) (edges_of f.l) f.can.edges.sorted b q same_label)
          ∙ subst (λ z. get (branch Node (linked_edges f.s f.l f.c f.r)) z ≡ Some Node) e node_parts

      free_child : is_there (branch f.s.content (edges_of f.c)) (child q s.label) ≡ false
      free_child =
          ap is_some (sym (get_mid (f.s.label, branch f.s.content (edges_of f.c)) (edges_of f.r) (edges_of f.l) f.can.edges.sorted b (child q s.label) same_label))
          ∙ subst (λ z. is_there (branch Node (linked_edges f.s f.l f.c f.r)) (child z s.label) ≡ false) e free_parts

      mid_is : put_under p s.label (branch s.content (edges_of c)) (linked_edges f.s f.l f.c f.r) ≡ edges_of f.l ++ (f.s.label, with_subtree (child q s.label) (entries (branch s.content (edges_of c))) (branch f.s.content (edges_of f.c))) ∷ edges_of f.r
      mid_is =
          ap (λ z. put_under z s.label (branch s.content (edges_of c)) (linked_edges f.s f.l f.c f.r)) e
          ∙ put_under-mid (f.s.label, branch f.s.content (edges_of f.c)) (edges_of f.r) (edges_of f.l) f.can.edges.sorted b q s.label (branch s.content (edges_of c)) same_label

      now : IsNow f.s.content (put_under q s.label (branch s.content (edges_of c)) (edges_of f.c)) (with_subtree (child q s.label) (entries (branch s.content (edges_of c))) (branch f.s.content (edges_of f.c)))
      now = put_under-is f.s.content (edges_of f.c) f.can.good s.label (branch s.content (edges_of c)) new_rooted q node_child

      pub put_below : CanPut slots links.children.number new q s c f.c (xs ++ (cells f.l ++ (at, f.s) ∷ [])) (cells f.r ++ ys)
      put_below = record {
        holds = held_as slots (((xs ++ (cells f.l ++ (at, f.s) ∷ [])) ++ cells f.c) ++ (((new, s) ∷ cells c) ++ (cells f.r ++ ys))) ((xs ++ (cells f.l ++ (at, f.s) ∷ [])) ++ (cells f.c ++ (((new, s) ∷ cells c) ++ (cells f.r ++ ys)))) (simp append_assoc)
            (held_swapped slots ((xs ++ (cells f.l ++ (at, f.s) ∷ [])) ++ cells f.c) (cells f.r) ((new, s) ∷ cells c) ys
            (held_as slots (xs ++ ((cells f.l ++ (at, f.s) ∷ (cells f.c ++ cells f.r)) ++ (((new, s) ∷ cells c) ++ ys))) (((xs ++ (cells f.l ++ (at, f.s) ∷ [])) ++ cells f.c) ++ (cells f.r ++ (((new, s) ∷ cells c) ++ ys))) (simp append_assoc) held_parts));
        root = f.can.children;
        sound = f.can.below;
        alone = k.alone;
        node = node_any f.s.content (edges_of f.c) f.can.good.sorted q node_child;
        free = there_any Node f.s.content (edges_of f.c) f.can.good.sorted q s.label ∙ free_child;
        small = now_children (edges_of f.l) f.s.label (with_subtree (child q s.label) (entries (branch s.content (edges_of c))) (branch f.s.content (edges_of f.c))) (edges_of f.r) f.s.content (put_under q s.label (branch s.content (edges_of c)) (edges_of f.c)) now (subst AreChildren mid_is small_parts);
      }

      pub relinked_below : (slots2 : List Slot) (children : SlotId) → Stand slots2 children.number (put_under q s.label (branch s.content (edges_of c)) (edges_of f.c)) (λ h. (height_of f.c ≤ h) × (h ≤ height_of f.c + 1)) (xs ++ (cells f.l ++ (at, f.s) ∷ [])) (cells f.r ++ ys) →
          Relinked slots2 at (record { left = links.left; children = children; right = links.right }) (put_under p s.label (branch s.content (edges_of c)) (edges_of t)) (λ h. (height_of t ≤ h) × (h ≤ height_of t + 1)) xs ys
      relinked_below slots2 children w =
          let edges : linked_edges f.s f.l w.shape f.r ≡ put_under p s.label (branch s.content (edges_of c)) (edges_of t) =
          ap (λ z. edges_of f.l ++ (f.s.label, z) ∷ edges_of f.r) (ap (branch f.s.content) w.edges ∙ now.is) ∙ sym mid_is ∙ ap (put_under p s.label (branch s.content (edges_of c))) (sym whole) in
          record {
            s = f.s;
            l = f.l;
            c = w.shape;
            r = f.r;
            can = record {
              holds = held_as slots2 ((xs ++ (cells f.l ++ (at, f.s) ∷ [])) ++ (cells w.shape ++ (cells f.r ++ ys))) (xs ++ ((cells f.l ++ (at, f.s) ∷ (cells w.shape ++ cells f.r)) ++ ys)) (simp append_assoc) w.is.holds;
              left = f.can.left;
              children = w.is.root;
              right = f.can.right;
              before = f.can.before;
              below = w.is.sound;
              after = f.can.after;
              good = subst (IsGood f.s.content) (sym w.edges) now.good;
              edges = subst AreChildren (sym edges) k.small;
              near = (omega (arith, f.can.near), omega (arith, f.can.near));
            };
            edges = edges;
            high = λ n z. raised (height_of t) (height_of f.l) (height_of f.r) (height_of f.l) n f.high f.can.near (omega arith, omega arith) z;
          }
