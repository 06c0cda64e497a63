-- What open siblings say of their value.
use Rattle.std.proofs.Common.{◌≡◌, ℕ, [], ◌∷◌, ◌++◌, sym, ap, subst, ◌∙◌, append_assoc, Option, Some, None, Result, Ok, Err, IfOk}
use Rattle.std.specs.Prelude.{OnOk, OnErr}
use Rattle.std.specs.FinMap.Entries.{find, put}
use Rattle.std.specs.declared.cmp.Ordering.TheVariants.{Less, Equal, Greater}
use Rattle.cp_path.specs.Text.{text_cmp}
use Rattle.cp_model.specs.Place.{Label}
use Rattle.cp_model.specs.Keyed.{entries}
use Rattle.cp_model.specs.Subtrees.{with_subtree}
use Rattle.cp_model.specs.Tree.{Tree, IsRooted}
use Rattle.cp_model.specs.declared.row.Content.{Content}
use Rattle.cp_tree.specs.Good.{IsGood}
use Rattle.cp_tree.proofs.GoodLemmas.{rooted-branch}
use Rattle.cp_tree.specs.Branch.{branch, without_child}
use Rattle.cp_tree.proofs.BranchLemmas.{label_same}
use Rattle.cp_tree_share.specs.Siblings.{Edges, siblings_of, AreBalanced, IsFork}
use Rattle.cp_tree_share.specs.Parts.{IsFull}
use Rattle.cp_tree.specs.Sums.{AreChildren}
use Rattle.cp_tree.proofs.SumsLemmas.{children_front, children_back}
use Rattle.cp_tree_share.specs.declared.forest.Fork.{Fork}
use Rattle.cp_tree_share.specs.declared.forest.Open.{Open}
use Rattle.cp_tree_share.specs.declared.forest.Open.TheVariants.{Full}
use Rattle.cp_tree.proofs.Split.{put_left, put_right, put_mid, cut_left, cut_right, cut_mid, find_left, find_right, find_mid}

pub record AtFork (s : Edges × ℕ) (f : Fork) : Type 0 where
  pub edges : s.0 ≡ f.left.0 ++ f.entry ∷ f.right.0
  pub height : s.1 ≡ f.height
  pub fork : IsFork f

pub at_full : {s : Edges × ℕ} {o : Open} → (f : _) → siblings_of o ≡ s → AreBalanced o → o ≡ Full f → AtFork s f.value
at_full f view good is =
    let e = sym view ∙ ap siblings_of is in
    record { edges = ap (λ z. z.0) e; height = ap (λ z. z.1) e; fork = subst AreBalanced is good }

pub inner_right : (x : Edges) (e : Label × Tree) (y z : Edges) → AreChildren ((x ++ e ∷ y) ++ z) → AreChildren (y ++ z)
inner_right x e y z k = children_back (e ∷ []) (y ++ z) (children_back x (e ∷ (y ++ z)) (subst AreChildren (append_assoc x (e ∷ y) z) k))

-- the parts of two levels, the left side x, j, y with y of u, i, v
pub inner_left : (x : Edges) (j : Label × Tree) (u : Edges) (i : Label × Tree) (v : Edges) → AreChildren (x ++ j ∷ (u ++ i ∷ v)) → AreChildren (x ++ j ∷ u)
inner_left x j u i v k = children_front (x ++ j ∷ u) (i ∷ v) (subst AreChildren (sym (append_assoc x (j ∷ u) (i ∷ v))) k)

pub outer_left : (l : Edges) (e : Label × Tree) (x z : Edges) → AreChildren (l ++ e ∷ (x ++ z)) → AreChildren (l ++ e ∷ x)
outer_left l e x z k = children_front (l ++ e ∷ x) z (subst AreChildren (sym (append_assoc l (e ∷ x) z)) k)

pub outer_mid : (u : Edges) (i : Label × Tree) (v z : Edges) → AreChildren ((u ++ i ∷ v) ++ z) → AreChildren (v ++ z)
outer_mid u i v z k = inner_right u i v z k

-- a change in one part of a full forest
module _ (s l : Edges × ℕ) (j : Label × Tree) (r : Edges × ℕ) (f : IsFull s l j r) where
  module _ (a : Label) (n : Tree) where
    pub put_in_left : (m : Edges) → text_cmp a j.0 ≡ Less → m ≡ put text_cmp a n l.0 → put text_cmp a n s.0 ≡ m ++ j ∷ r.0
    put_in_left m lt e = ap (put text_cmp a n) f.edges ∙ put_left a j r.0 n l.0 lt ∙ ap (λ z. z ++ j ∷ r.0) (sym e)

    pub put_in_right : (m : Edges) → text_cmp a j.0 ≡ Greater → m ≡ put text_cmp a n r.0 → put text_cmp a n s.0 ≡ l.0 ++ j ∷ m
    put_in_right m gt e = ap (put text_cmp a n) f.edges ∙ put_right a j r.0 n l.0 f.children.sorted gt ∙ ap (λ z. l.0 ++ j ∷ z) (sym e)

    pub put_in_mid : text_cmp a j.0 ≡ Equal → put text_cmp a n s.0 ≡ l.0 ++ (a, n) ∷ r.0
    put_in_mid eq = ap (put text_cmp a n) f.edges ∙ put_mid a j r.0 n l.0 f.children.sorted eq ∙ ap (λ z. l.0 ++ (z, n) ∷ r.0) (sym (label_same a j.0 eq))

  module _ (a : Label) where
    pub cut_in_left : (m : Edges) → text_cmp a j.0 ≡ Less → m ≡ without_child a l.0 → without_child a s.0 ≡ m ++ j ∷ r.0
    cut_in_left m lt e = ap (without_child a) f.edges ∙ cut_left a j r.0 l.0 f.children.sorted lt ∙ ap (λ z. z ++ j ∷ r.0) (sym e)

    pub cut_in_right : (m : Edges) → text_cmp a j.0 ≡ Greater → m ≡ without_child a r.0 → without_child a s.0 ≡ l.0 ++ j ∷ m
    cut_in_right m gt e = ap (without_child a) f.edges ∙ cut_right a j r.0 l.0 f.children.sorted gt ∙ ap (λ z. l.0 ++ j ∷ z) (sym e)

    pub cut_in_mid : text_cmp a j.0 ≡ Equal → without_child a s.0 ≡ l.0 ++ r.0
    cut_in_mid eq = ap (without_child a) f.edges ∙ cut_mid a j r.0 l.0 f.children.sorted eq

-- what is found in a full forest
module _ (s : Edges × ℕ) (f : Fork) (at : AtFork s f) (a : Label) where
  pub find_in_left : text_cmp a f.entry.0 ≡ Less → find text_cmp a s.0 ≡ find text_cmp a f.left.0
  find_in_left lt = ap (find text_cmp a) at.edges ∙ find_left a f.entry f.right.0 f.left.0 at.fork.children.sorted lt

  pub find_in_right : text_cmp a f.entry.0 ≡ Greater → find text_cmp a s.0 ≡ find text_cmp a f.right.0
  find_in_right gt = ap (find text_cmp a) at.edges ∙ find_right a f.entry f.right.0 f.left.0 at.fork.children.sorted gt

  pub find_in_mid : text_cmp a f.entry.0 ≡ Equal → find text_cmp a s.0 ≡ Some f.entry.1
  find_in_mid eq = ap (find text_cmp a) at.edges ∙ find_mid a f.entry f.right.0 f.left.0 at.fork.children.sorted eq

pub edges_alone : {E : Type 0} (r : Result (Edges × ℕ) E) (s : Edges × ℕ) → IfOk r (λ t. t ≡ s) → IfOk r (λ t. t.0 ≡ s.0)
edges_alone (Ok t) s e = ap (λ z. z.0) e
edges_alone (Err x) s e = tt

-- a node is rooted
pub rooted_view : (m : Tree) (x : Content) (es : Edges) → branch x es ≡ m → IsGood x es → IsRooted m
rooted_view m x es view g = subst IsRooted view (rooted-branch x es g)

-- what was copied stands there
pub some_content : {E : Type 0} (r : Result Content E) (x : Content) (o : Option Content) → o ≡ Some x → IfOk r (λ c. c ≡ x) → IfOk r (λ c. o ≡ Some c)
some_content (Ok c) x o e h = e ∙ ap (λ z. Some z) (sym h)
some_content (Err y) x o e h = tt

pub none_some : {A : Type 0} (x : A) → None ≡ Some x → {B : Type 0} → B
none_some x e = absurd (cc)

-- a child put under a label that is known by another name
pub child_as : (m : Tree) (a b : Label) (n k w : Tree) → a ≡ b → n ≡ k → w ≡ with_subtree (b ∷ []) (entries k) m → with_subtree (a ∷ []) (entries n) m ≡ w
child_as m a b n k w l e h = ap (λ z. with_subtree (z ∷ []) (entries n) m) l ∙ ap (λ z. with_subtree (b ∷ []) (entries z) m) e ∙ sym h

-- what holds after either outcome
pub either_way : {A E X Y Z : Type 0} (r : Result A E) → OnOk r X → OnErr r Y → (X → Z) → (Y → Z) → Z
either_way (Ok x) a b f g = f a
either_way (Err x) a b f g = g b
