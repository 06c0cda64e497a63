-- What is read of siblings from the slots alone.
use Rattle.std.proofs.Common.{◌≡◌, ℕ, zero, suc, ◌+◌, ◌<◌, ◌≤◌, List, [], ◌∷◌, ◌++◌, map, length, Some, None, Result, Ok, Err, OnOk, append-nil, sym, ap, subst, ◌∙◌, append_assoc, refl, arith}
use Rattle.std.specs.List.{AllByRecursion, slice_get}
use Rattle.std.proofs.lemmas.List.{map-append}
use Rattle.std.proofs.lemmas.Option.{slice_get_past}
use Rattle.std.specs.declared.cmp.Ordering.TheVariants.{Less, Equal, Greater}
use Rattle.std.specs.FinMap.Entries.{find}
use Rattle.cp_path.specs.Text.{text_cmp}
use Rattle.cp_model.specs.Place.{Label}
use Rattle.cp_model.specs.Tree.{Tree}
use Rattle.cp_tree.specs.Branch.{branch, children_len}
use Rattle.cp_tree.specs.Good.{IsGood}
use Rattle.cp_tree.specs.Sums.{sums_of, AreChildren}
use Rattle.cp_tree.proofs.Split.{find_left, find_right, find_mid}
use Rattle.cp_tree.proofs.SumsLemmas.{children_len-append}
use Rattle.cp_tree.proofs.Totals.{len-branch}
use Rattle.cp_tree_arena.specs.declared.slot.Slot.{Slot}
use Rattle.cp_tree_arena.specs.Slots.{NO_SLOT, sums_in}
use Rattle.cp_tree_arena.specs.Shapes.{Cell, Edges, Shape, Tip, Fork, number_of, cells, edges_of, IsSound}
use Rattle.cp_tree_arena.specs.Cells.{Holds, IsAt}
use Rattle.cp_tree_arena.proofs.Holding.{all_front, all_back}
use Rattle.cp_tree_arena.specs.Kept.{opened, shape_in, shape_at, edges_at, tree_at, IsKept, IsNodeAt}

-- these cells stand in the slots
abbrev pub AreIn : List Slot → List Cell → Type 0
AreIn slots cs = AllByRecursion (λ (c : Cell). slice_get slots c.0 ≡ Some c.1) cs

-- the number of places that is kept at a number
abbrev pub places_at : List Slot → ℕ → ℕ
places_at slots at = (sums_in (slice_get slots at)).nodes

module _ (slots : List Slot) where
  -- the cells of the parts of a fork
  module _ (n : ℕ) (s : Slot) (l c r : Shape) (h : AreIn slots (cells (Fork n s l c r))) where
    in_left : AreIn slots (cells l)
    in_left = all_front _ (cells l) ((n, s) ∷ (cells c ++ cells r)) h

    in_rest : AreIn slots ((n, s) ∷ (cells c ++ cells r))
    in_rest = all_back _ (cells l) ((n, s) ∷ (cells c ++ cells r)) h

    in_children : AreIn slots (cells c)
    in_children = all_front _ (cells c) (cells r) in_rest.1

    in_right : AreIn slots (cells r)
    in_right = all_back _ (cells c) (cells r) in_rest.1

  -- a fork has one place more than its parts
  fork_places : (n : ℕ) (s : Slot) (l c r : Shape) → IsSound (Fork n s l c r) → children_len (edges_of (Fork n s l c r)) ≡ children_len (edges_of l) + (children_len (edges_of c) + 1 + children_len (edges_of r))
  fork_places n s l c r f = children_len-append (edges_of l) ((s.label, branch s.content (edges_of c)) ∷ edges_of r) ∙ ap (λ z. children_len (edges_of l) + (z + children_len (edges_of r))) (len-branch s.content (edges_of c) f.0.good.sorted)

  module _ (few : length slots ≤ NO_SLOT) where
    no_slot : slice_get slots NO_SLOT ≡ None
    no_slot = slice_get_past slots NO_SLOT few

    -- as many steps as there are places lead to the whole shape
    shape_in-is : (t : Shape) → IsSound t → AreIn slots (cells t) → (k : ℕ) → children_len (edges_of t) ≤ k → shape_in k slots (number_of t) ≡ t
    shape_in-is Tip f h zero e = refl
    shape_in-is Tip f h (suc k) e = ap (opened (shape_in k slots) NO_SLOT) no_slot
    shape_in-is (Fork n s l c r) f h zero e = absurd (omega (arith, e, fork_places n s l c r f))
    shape_in-is (Fork n s l c r) f h (suc k) e =
        let p = fork_places n s l c r f in
        let left : shape_in k slots s.links.left.number ≡ l = ap (shape_in k slots) f.0.left ∙ shape_in-is l f.1 (in_left n s l c r h) k (omega (arith, e, p)) in
        let children : shape_in k slots s.links.children.number ≡ c = ap (shape_in k slots) f.0.children ∙ shape_in-is c f.2 (in_children n s l c r h) k (omega (arith, e, p)) in
        let right : shape_in k slots s.links.right.number ≡ r = ap (shape_in k slots) f.0.right ∙ shape_in-is r f.3 (in_right n s l c r h) k (omega (arith, e, p)) in
        ap (opened (shape_in k slots) n) (in_rest n s l c r h).0 ∙ (λ i. Fork n s (left i) (children i) (right i))

    -- the sums that are kept at the root are those of all edges
    sums_is : (t : Shape) → IsSound t → AreIn slots (cells t) → sums_in (slice_get slots (number_of t)) ≡ sums_of (edges_of t)
    sums_is Tip f h = ap sums_in no_slot
    sums_is (Fork n s l c r) f h = ap sums_in (in_rest n s l c r h).0 ∙ f.0.sums

    shape_is : (t : Shape) → IsSound t → AreIn slots (cells t) → shape_at slots (number_of t) ≡ t
    unfolding shape_at
    shape_is t f h = shape_in-is t f h _ (omega (arith, ap (λ z. z.nodes) (sums_is t f h)))

module _ (slots : List Slot) (at : ℕ) (t : Shape) (xs ys : List Cell) (h : IsAt slots at t xs ys) where
  in_whole : AreIn slots (cells t)
  in_whole = all_front _ (cells t) ys (all_back _ xs (cells t ++ ys) h.holds.stand)

  -- the shape is read where siblings stand
  shape_at-is : shape_at slots at ≡ t
  shape_at-is = ap (shape_at slots) h.root ∙ shape_is slots h.holds.few t h.sound in_whole

  pub edges_at-is : edges_at slots at ≡ edges_of t
  edges_at-is = ap edges_of shape_at-is

  sums_at-is : sums_in (slice_get slots at) ≡ sums_of (edges_of t)
  sums_at-is = ap (λ z. sums_in (slice_get slots z)) h.root ∙ sums_is slots h.holds.few t h.sound in_whole

  places_at-is : places_at slots at ≡ children_len (edges_of t)
  places_at-is = ap (λ z. z.nodes) sums_at-is

  pub kept_here : IsKept slots at
  kept_here = record { shape = t; xs = xs; ys = ys; is = h }

-- siblings and their edges
pub edges_sound : (t : Shape) → IsSound t → AreChildren (edges_of t)
edges_sound Tip f = record { sorted = tt; rooted = tt; small = record { nodes = omega arith; inner = omega arith; size = omega arith; depth = omega arith } }
edges_sound (Fork n s l c r) f = f.0.edges

module _ (slots : List Slot) (at : ℕ) (k : IsKept slots at) where
  -- what is kept is that of all edges
  pub sums_kept : sums_in (slice_get slots at) ≡ sums_of (edges_at slots at)
  sums_kept = sums_at-is slots at k.shape k.xs k.ys k.is ∙ sym (ap sums_of (edges_at-is slots at k.shape k.xs k.ys k.is))

  pub edges_kept : AreChildren (edges_at slots at)
  edges_kept = subst AreChildren (sym (edges_at-is slots at k.shape k.xs k.ys k.is)) (edges_sound k.shape k.is.sound)

-- ---- one step down

-- the slot s stands at a number where siblings are kept: these fall into those before it, it and those after it
pub record IsKeptAt (slots : List Slot) (at : ℕ) (s : Slot) : Type 0 where
  pub left : IsKept slots s.links.left.number
  pub right : IsKept slots s.links.right.number
  pub node : IsNodeAt slots s.content s.links.children.number
  pub all : AreChildren (edges_at slots s.links.left.number ++ (s.label, tree_at slots s.content s.links.children.number) ∷ edges_at slots s.links.right.number)
  pub edges : edges_at slots at ≡ edges_at slots s.links.left.number ++ (s.label, tree_at slots s.content s.links.children.number) ∷ edges_at slots s.links.right.number
  pub fewer_left : places_at slots s.links.left.number < places_at slots at
  pub fewer_children : places_at slots s.links.children.number < places_at slots at
  pub fewer_right : places_at slots s.links.right.number < places_at slots at

module _ (slots : List Slot) (at n : ℕ) (s : Slot) (l c r : Shape) (xs ys : List Cell) (h : IsAt slots at (Fork n s l c r) xs ys) where
  at_left : IsAt slots s.links.left.number l xs (((n, s) ∷ (cells c ++ cells r)) ++ ys)
  at_left = record { root = h.sound.0.left; holds = subst (λ z. Holds slots (xs ++ z)) (append_assoc (cells l) ((n, s) ∷ (cells c ++ cells r)) ys) h.holds; sound = h.sound.1 }

  at_children : IsAt slots s.links.children.number c (xs ++ (cells l ++ (n, s) ∷ [])) (cells r ++ ys)
  at_children = record {
    root = h.sound.0.children;
    holds = subst (Holds slots) (ap (λ z. xs ++ z) (simp append_assoc) ∙ sym (append_assoc xs (cells l ++ (n, s) ∷ []) (cells c ++ (cells r ++ ys)))) h.holds;
    sound = h.sound.2;
  }

  at_right : IsAt slots s.links.right.number r (xs ++ (cells l ++ (n, s) ∷ cells c)) ys
  at_right = record {
    root = h.sound.0.right;
    holds = subst (Holds slots) (ap (λ z. xs ++ z) (simp append_assoc) ∙ sym (append_assoc xs (cells l ++ (n, s) ∷ cells c) (cells r ++ ys))) h.holds;
    sound = h.sound.3;
  }

  kept_fork : IsKeptAt slots at s
  kept_fork =
      let left = edges_at-is slots _ l _ _ at_left in
      let children = edges_at-is slots _ c _ _ at_children in
      let right = edges_at-is slots _ r _ _ at_right in
      let edges : edges_of (Fork n s l c r) ≡ edges_at slots s.links.left.number ++ (s.label, tree_at slots s.content s.links.children.number) ∷ edges_at slots s.links.right.number = λ i. sym left i ++ (s.label, branch s.content (sym children i)) ∷ sym right i in
      let all = places_at-is slots at (Fork n s l c r) xs ys h in
      let places = fork_places slots n s l c r h.sound in
      record {
        left = kept_here slots _ l _ _ at_left;
        right = kept_here slots _ r _ _ at_right;
        node = record { kept = kept_here slots _ c _ _ at_children; good = subst (IsGood s.content) (sym children) h.sound.0.good };
        all = subst AreChildren edges h.sound.0.edges;
        edges = edges_at-is slots at (Fork n s l c r) xs ys h ∙ edges;
        fewer_left = omega (arith, all, places, places_at-is slots _ l _ _ at_left);
        fewer_children = omega (arith, all, places, places_at-is slots _ c _ _ at_children);
        fewer_right = omega (arith, all, places, places_at-is slots _ r _ _ at_right);
      }

module _ (slots : List Slot) (at : ℕ) (k : IsKept slots at) where
  -- where a slot stands
  pub kept_slot : (s : Slot) → slice_get slots at ≡ Some s → IsKeptAt slots at s
  kept_slot s e = by k.shape k.is
    where
      by : (t : Shape) → IsAt slots at t k.xs k.ys → IsKeptAt slots at s
      by Tip h = absurd (let no = ap (slice_get slots) h.root ∙ no_slot slots h.holds.few in cc)
      by (Fork n s2 l c r) h =
          let there : slice_get slots at ≡ Some s2 = ap (slice_get slots) h.root ∙ (in_rest slots n s2 l c r (in_whole slots at (Fork n s2 l c r) k.xs k.ys h)).0 in
          let same : s2 ≡ s = cc in
          subst (IsKeptAt slots at) same (kept_fork slots at n s2 l c r k.xs k.ys h)

  -- where none stands
  pub kept_none : slice_get slots at ≡ None → edges_at slots at ≡ []
  kept_none e = by k.shape k.is
    where
      by : (t : Shape) → IsAt slots at t k.xs k.ys → edges_at slots at ≡ []
      by Tip h = edges_at-is slots at Tip k.xs k.ys h
      by (Fork n s l c r) h = absurd (let there : slice_get slots at ≡ Some s = ap (slice_get slots) h.root ∙ (in_rest slots n s l c r (in_whole slots at (Fork n s l c r) k.xs k.ys h)).0 in cc)

-- what is found among siblings
module _ (slots : List Slot) (at : ℕ) (s : Slot) (k : IsKeptAt slots at s) (a : Label) where
  pub find_before : text_cmp a s.label ≡ Less → find text_cmp a (edges_at slots at) ≡ find text_cmp a (edges_at slots s.links.left.number)
  find_before lt = ap (find text_cmp a) k.edges ∙ find_left a (s.label, tree_at slots s.content s.links.children.number) (edges_at slots s.links.right.number) (edges_at slots s.links.left.number) k.all.sorted lt

  pub find_after : text_cmp a s.label ≡ Greater → find text_cmp a (edges_at slots at) ≡ find text_cmp a (edges_at slots s.links.right.number)
  find_after gt = ap (find text_cmp a) k.edges ∙ find_right a (s.label, tree_at slots s.content s.links.children.number) (edges_at slots s.links.right.number) (edges_at slots s.links.left.number) k.all.sorted gt

  pub find_here : text_cmp a s.label ≡ Equal → find text_cmp a (edges_at slots at) ≡ Some (tree_at slots s.content s.links.children.number)
  find_here eq = ap (find text_cmp a) k.edges ∙ find_mid a (s.label, tree_at slots s.content s.links.children.number) (edges_at slots s.links.right.number) (edges_at slots s.links.left.number) k.all.sorted eq

-- ---- labels

-- no siblings have no labels
pub no_labels : (out : List Label) (es : Edges) → es ≡ [] → out ≡ out ++ map (λ e. e.0) es
no_labels out es e = sym (append-nil out) ∙ ap (λ z. out ++ map (λ e. e.0) z) (sym e)

-- the labels of the siblings before one, its own, and those of the siblings after it are added
pub labels_fork : {E : Type 0} (result : Result (Unit {0}) E) (new first left mid : List Label) (a b : Label) (k : Tree) (s l r : Edges) → s ≡ l ++ (a, k) ∷ r →
    left ≡ first ++ map (λ e. e.0) l → mid ≡ left ++ b ∷ [] → b ≡ a → OnOk result (new ≡ mid ++ map (λ e. e.0) r) → OnOk result (new ≡ first ++ map (λ e. e.0) s)
labels_fork (Err y) new first left mid a b k s l r e f m n h = tt
labels_fork (Ok u) new first left mid a b k s l r e f m n h =
    h ∙ ap (λ z. z ++ map (λ e. e.0) r) (m ∙ ap (λ z. left ++ z ∷ []) n ∙ ap (λ z. z ++ a ∷ []) f)
    ∙ append_assoc (first ++ map (λ e. e.0) l) (a ∷ []) (map (λ e. e.0) r) ∙ append_assoc first (map (λ e. e.0) l) (a ∷ map (λ e. e.0) r)
    ∙ ap (λ z. first ++ z) (sym (map-append (λ (e : Label × Tree). e.0) l ((a, k) ∷ r)) ∙ ap (map (λ e. e.0)) (sym e))
