-- Siblings that are changed in place.
use Rattle.std.proofs.Common.{◌≡◌, ℕ, ◌+◌, ◌*◌, ◌<◌, max, [], ◌∷◌, ◌++◌, refl, sym, ap, subst, ◌∙◌, arith}
use Rattle.std.specs.FinMap.Entries.{put}
use Rattle.std.specs.declared.cmp.Ordering.TheVariants.{Less, Equal, Greater}
use Rattle.cp_path.specs.Text.{text_cmp}
use Rattle.cp_model.specs.Place.{Label}
use Rattle.cp_model.specs.Tree.{Tree}
use Rattle.cp_tree.specs.Branch.{children_len, without_child}
use Rattle.cp_tree.specs.Sums.{AreChildren}
use Rattle.cp_tree.proofs.SumsLemmas.{children_len-append, children_front, children_back}
use Rattle.cp_tree_share.specs.Falls.{some_place, rooted_at}
use Rattle.cp_tree_share.specs.Parts.{IsFull, HasParts}
use Rattle.cp_tree_share.specs.Siblings.{Edges, IsFork, fork_edges}
use Rattle.cp_tree_share.specs.declared.forest.Fork.{Fork}
use Rattle.cp_tree_share.proofs.At.{AtFork, put_in_left, put_in_right, put_in_mid, cut_in_left, cut_in_right}

pair : (a c : Edges) (b d : ℕ) → a ≡ c → b ≡ d → ◌≡◌ {A = Edges × ℕ} (a, b) (c, d)
pair a c b d e f = ap {B = Edges × ℕ} (λ z. (z, b)) e ∙ ap {B = Edges × ℕ} (λ z. (c, z)) f

edges_of : (g : Fork) (l : Edges × ℕ) (j : Label × Tree) (r : Edges × ℕ) → HasParts g l j r → fork_edges g ≡ l.0 ++ j ∷ r.0
edges_of g l j r h = ap (λ z. z.0 ++ g.entry ∷ g.right.0) h.left ∙ ap (λ z. l.0 ++ z ∷ g.right.0) h.entry ∙ ap (λ z. l.0 ++ j ∷ z.0) h.right

module _ (s : Edges × ℕ) (f : Fork) (at : AtFork s f) where
  pub parts_full : IsFull s f.left f.entry f.right
  parts_full =
      let n = children_len-append f.left.0 (f.entry ∷ f.right.0) in
      record {
        edges = at.edges;
        children = at.fork.children;
        some = some_place f.entry.1 (rooted_at f.left.0 f.entry f.right.0 at.fork.children.rooted);
        high = at.height ∙ at.fork.high;
        near = at.fork.near;
        count = ap children_len at.edges ∙ omega (arith, n);
      }

  -- a fork of sides of the same heights is as high
  same_height : (g : Fork) → IsFork g → g.left.1 ≡ f.left.1 → g.right.1 ≡ f.right.1 → g.height ≡ s.1
  same_height g i a b = i.high ∙ ap (λ z. max z g.right.1 + 1) a ∙ ap (λ z. max f.left.1 z + 1) b ∙ sym at.fork.high ∙ sym at.height

  settled : (g : Fork) (l : Edges × ℕ) (j : Label × Tree) (r : Edges × ℕ) (es : Edges) → IsFork g → HasParts g l j r → l.1 ≡ f.left.1 → r.1 ≡ f.right.1 → l.0 ++ j ∷ r.0 ≡ es → ◌≡◌ {A = Edges × ℕ} (fork_edges g, g.height) (es, s.1)
  settled g l j r es i h a b is = pair (fork_edges g) es g.height s.1 (edges_of g l j r h ∙ is) (same_height g i (ap (λ z. z.1) h.left ∙ a) (ap (λ z. z.1) h.right ∙ b))

module _ (s : Edges × ℕ) (f : Fork) (at : AtFork s f) (e : Label × Tree) (k : AreChildren (put text_cmp e.0 e.1 s.0)) where
  full : IsFull s f.left f.entry f.right
  full = parts_full s f at

  pub left_less : 3 * children_len f.left.0 + 2 < 3 * children_len s.0 + 2
  left_less = omega (arith, full.count, full.some)

  pub right_less : 3 * children_len f.right.0 + 2 < 3 * children_len s.0 + 2
  right_less = omega (arith, full.count, full.some)

  -- ---- before the sibling

  module _ (lt : text_cmp e.0 f.entry.0 ≡ Less) where
    pub left_children : AreChildren (put text_cmp e.0 e.1 f.left.0)
    left_children = children_front (put text_cmp e.0 e.1 f.left.0) (f.entry ∷ f.right.0) (subst AreChildren (put_in_left s f.left f.entry f.right full e.0 e.1 _ lt refl) k)

    pub left_sides : (l : Edges × ℕ) → l ≡ (put text_cmp e.0 e.1 f.left.0, f.left.1) → AreChildren (l.0 ++ f.entry ∷ f.right.0)
    left_sides l h = subst AreChildren (put_in_left s f.left f.entry f.right full e.0 e.1 l.0 lt (ap (λ z. z.0) h)) k

    pub left_done : (l : Edges × ℕ) → l ≡ (put text_cmp e.0 e.1 f.left.0, f.left.1) → (g : Fork) → IsFork g → HasParts g l f.entry f.right → ◌≡◌ {A = Edges × ℕ} (fork_edges g, g.height) (put text_cmp e.0 e.1 s.0, s.1)
    left_done l h g i p = settled s f at g l f.entry f.right (put text_cmp e.0 e.1 s.0) i p (ap (λ z. z.1) h) refl (sym (put_in_left s f.left f.entry f.right full e.0 e.1 l.0 lt (ap (λ z. z.0) h)))

  -- ---- after the sibling

  module _ (gt : text_cmp e.0 f.entry.0 ≡ Greater) where
    pub right_children : AreChildren (put text_cmp e.0 e.1 f.right.0)
    right_children =
        children_back (f.entry ∷ []) (put text_cmp e.0 e.1 f.right.0)
        (children_back f.left.0 (f.entry ∷ put text_cmp e.0 e.1 f.right.0) (subst AreChildren (put_in_right s f.left f.entry f.right full e.0 e.1 _ gt refl) k))

    pub right_sides : (r : Edges × ℕ) → r ≡ (put text_cmp e.0 e.1 f.right.0, f.right.1) → AreChildren (f.left.0 ++ f.entry ∷ r.0)
    right_sides r h = subst AreChildren (put_in_right s f.left f.entry f.right full e.0 e.1 r.0 gt (ap (λ z. z.0) h)) k

    pub right_done : (r : Edges × ℕ) → r ≡ (put text_cmp e.0 e.1 f.right.0, f.right.1) → (g : Fork) → IsFork g → HasParts g f.left f.entry r → ◌≡◌ {A = Edges × ℕ} (fork_edges g, g.height) (put text_cmp e.0 e.1 s.0, s.1)
    right_done r h g i p = settled s f at g f.left f.entry r (put text_cmp e.0 e.1 s.0) i p refl (ap (λ z. z.1) h) (sym (put_in_right s f.left f.entry f.right full e.0 e.1 r.0 gt (ap (λ z. z.0) h)))

  -- ---- the sibling itself

  module _ (eq : text_cmp e.0 f.entry.0 ≡ Equal) where
    pub mid_children : AreChildren (f.left.0 ++ e ∷ f.right.0)
    mid_children = subst AreChildren (put_in_mid s f.left f.entry f.right full e.0 e.1 eq) k

    pub mid_done : (g : Fork) → IsFork g → HasParts g f.left e f.right → ◌≡◌ {A = Edges × ℕ} (fork_edges g, g.height) (put text_cmp e.0 e.1 s.0, s.1)
    mid_done g i p = settled s f at g f.left e f.right (put text_cmp e.0 e.1 s.0) i p refl refl (sym (put_in_mid s f.left f.entry f.right full e.0 e.1 eq))

-- ---- a sibling is taken out

module _ (s : Edges × ℕ) (f : Fork) (at : AtFork s f) (a : Label) (k : AreChildren (without_child a s.0)) where
  whole : IsFull s f.left f.entry f.right
  whole = parts_full s f at

  pub cut_left_less : 3 * children_len f.left.0 + 2 < 3 * children_len s.0 + 2
  cut_left_less = omega (arith, whole.count, whole.some)

  pub cut_right_less : 3 * children_len f.right.0 + 2 < 3 * children_len s.0 + 2
  cut_right_less = omega (arith, whole.count, whole.some)

  module _ (lt : text_cmp a f.entry.0 ≡ Less) where
    pub cut_left_children : AreChildren (without_child a f.left.0)
    cut_left_children = children_front (without_child a f.left.0) (f.entry ∷ f.right.0) (subst AreChildren (cut_in_left s f.left f.entry f.right whole a _ lt refl) k)

    pub cut_left_sides : (l : Edges × ℕ) → l ≡ (without_child a f.left.0, f.left.1) → AreChildren (l.0 ++ f.entry ∷ f.right.0)
    cut_left_sides l h = subst AreChildren (cut_in_left s f.left f.entry f.right whole a l.0 lt (ap (λ z. z.0) h)) k

    pub cut_left_done : (l : Edges × ℕ) → l ≡ (without_child a f.left.0, f.left.1) → (g : Fork) → IsFork g → HasParts g l f.entry f.right → ◌≡◌ {A = Edges × ℕ} (fork_edges g, g.height) (without_child a s.0, s.1)
    cut_left_done l h g i p = settled s f at g l f.entry f.right (without_child a s.0) i p (ap (λ z. z.1) h) refl (sym (cut_in_left s f.left f.entry f.right whole a l.0 lt (ap (λ z. z.0) h)))

  module _ (gt : text_cmp a f.entry.0 ≡ Greater) where
    pub cut_right_children : AreChildren (without_child a f.right.0)
    cut_right_children =
        children_back (f.entry ∷ []) (without_child a f.right.0)
        (children_back f.left.0 (f.entry ∷ without_child a f.right.0) (subst AreChildren (cut_in_right s f.left f.entry f.right whole a _ gt refl) k))

    pub cut_right_sides : (r : Edges × ℕ) → r ≡ (without_child a f.right.0, f.right.1) → AreChildren (f.left.0 ++ f.entry ∷ r.0)
    cut_right_sides r h = subst AreChildren (cut_in_right s f.left f.entry f.right whole a r.0 gt (ap (λ z. z.0) h)) k

    pub cut_right_done : (r : Edges × ℕ) → r ≡ (without_child a f.right.0, f.right.1) → (g : Fork) → IsFork g → HasParts g f.left f.entry r → ◌≡◌ {A = Edges × ℕ} (fork_edges g, g.height) (without_child a s.0, s.1)
    cut_right_done r h g i p = settled s f at g f.left f.entry r (without_child a s.0) i p refl (ap (λ z. z.1) h) (sym (cut_in_right s f.left f.entry f.right whole a r.0 gt (ap (λ z. z.0) h)))
