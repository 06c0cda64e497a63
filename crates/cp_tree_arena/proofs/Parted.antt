-- A change below siblings that fall into those before one, it and those after it: which part it changes, and how.
use Rattle.std.specs.Prelude.{◌≡◌, ◌++◌, [], ◌∷◌, is_some, refl}
use Rattle.std.proofs.Common.{sym, ap, subst, ◌∙◌, T, arith}
use Rattle.std.specs.declared.option.Option.{Option}
use Rattle.std.specs.declared.option.Option.TheVariants.{None, Some}
use Rattle.std.specs.declared.cmp.Ordering.TheVariants.{Less, Equal, Greater}
use Rattle.std.specs.FinMap.Entries.{find, is_sorted}
use Rattle.cp_path.specs.Text.{text_cmp}
use Rattle.cp_model.specs.declared.row.Content.{Content}
use Rattle.cp_model.specs.declared.row.Content.TheVariants.{Node}
use Rattle.cp_model.specs.Place.{Label, Path, child}
use Rattle.cp_model.specs.Keyed.{get, entries}
use Rattle.cp_model.specs.Subtrees.{with_subtree, without, is_there}
use Rattle.cp_model.specs.Tree.{Tree}
use Rattle.cp_tree.specs.Branch.{branch}
use Rattle.cp_tree.specs.Sums.{AreChildren, IsSmall}
use Rattle.cp_tree.proofs.BranchLemmas.{get_in, get-branch_root, get-branch_child}
use Rattle.cp_tree.proofs.GoodLemmas.{IsNow}
use Rattle.cp_tree.proofs.Small.{children_of}
use Rattle.cp_tree.proofs.Split.{sorted_front, sorted_back, find_left, find_right, find_mid, put_left, put_right, put_mid, cut_left, cut_right, cut_mid}
use Rattle.cp_tree.proofs.SumsLemmas.{children_front, children_back}
use Rattle.cp_tree_arena.specs.Shapes.{Edges}
use Rattle.cp_tree_arena.specs.Changes.{first_or, changed_child, put_under, cut_under}

module _ (e : Label × Tree) (r : Edges) where
  module _ (b : Label) (f : Tree → Tree) where
    changed_left : (l : Edges) (o : Option Tree) → text_cmp b e.0 ≡ Less → changed_child b f o (l ++ e ∷ r) ≡ changed_child b f o l ++ e ∷ r
    changed_left l None lt = refl
    changed_left l (Some k) lt = put_left b e r (f k) l lt

    changed_right : (l : Edges) (o : Option Tree) → T (is_sorted text_cmp (l ++ e ∷ r)) → text_cmp b e.0 ≡ Greater → changed_child b f o (l ++ e ∷ r) ≡ l ++ e ∷ changed_child b f o r
    changed_right l None s gt = refl
    changed_right l (Some k) s gt = put_right b e r (f k) l s gt

    child_left : (l : Edges) → T (is_sorted text_cmp (l ++ e ∷ r)) → text_cmp b e.0 ≡ Less → changed_child b f (find text_cmp b (l ++ e ∷ r)) (l ++ e ∷ r) ≡ changed_child b f (find text_cmp b l) l ++ e ∷ r
    child_left l s lt = ap (λ o. changed_child b f o (l ++ e ∷ r)) (find_left b e r l s lt) ∙ changed_left l (find text_cmp b l) lt

    child_right : (l : Edges) → T (is_sorted text_cmp (l ++ e ∷ r)) → text_cmp b e.0 ≡ Greater → changed_child b f (find text_cmp b (l ++ e ∷ r)) (l ++ e ∷ r) ≡ l ++ e ∷ changed_child b f (find text_cmp b r) r
    child_right l s gt = ap (λ o. changed_child b f o (l ++ e ∷ r)) (find_right b e r l s gt) ∙ changed_right l (find text_cmp b r) s gt

    child_mid : (l : Edges) → T (is_sorted text_cmp (l ++ e ∷ r)) → text_cmp b e.0 ≡ Equal → changed_child b f (find text_cmp b (l ++ e ∷ r)) (l ++ e ∷ r) ≡ l ++ (e.0, f e.1) ∷ r
    child_mid l s eq = ap (λ o. changed_child b f o (l ++ e ∷ r)) (find_mid b e r l s eq) ∙ put_mid b e r (f e.1) l s eq

  module _ (l : Edges) (s : T (is_sorted text_cmp (l ++ e ∷ r))) where
    pub put_under-left : (p : Path) (a : Label) (n : Tree) → text_cmp (first_or p a) e.0 ≡ Less → put_under p a n (l ++ e ∷ r) ≡ put_under p a n l ++ e ∷ r
    put_under-left [] a n lt = put_left a e r n l lt
    put_under-left (b ∷ q) a n lt = child_left b (with_subtree (child q a) (entries n)) l s lt

    pub put_under-right : (p : Path) (a : Label) (n : Tree) → text_cmp (first_or p a) e.0 ≡ Greater → put_under p a n (l ++ e ∷ r) ≡ l ++ e ∷ put_under p a n r
    put_under-right [] a n gt = put_right a e r n l s gt
    put_under-right (b ∷ q) a n gt = child_right b (with_subtree (child q a) (entries n)) l s gt

    pub put_under-mid : (b : Label) (q : Path) (a : Label) (n : Tree) → text_cmp b e.0 ≡ Equal → put_under (b ∷ q) a n (l ++ e ∷ r) ≡ l ++ (e.0, with_subtree (child q a) (entries n) e.1) ∷ r
    put_under-mid b q a n eq = child_mid b (with_subtree (child q a) (entries n)) l s eq

    pub cut_under-left : (p : Path) (a : Label) → text_cmp (first_or p a) e.0 ≡ Less → cut_under p a (l ++ e ∷ r) ≡ cut_under p a l ++ e ∷ r
    cut_under-left [] a lt = cut_left a e r l s lt
    cut_under-left (b ∷ q) a lt = child_left b (without (child q a)) l s lt

    pub cut_under-right : (p : Path) (a : Label) → text_cmp (first_or p a) e.0 ≡ Greater → cut_under p a (l ++ e ∷ r) ≡ l ++ e ∷ cut_under p a r
    cut_under-right [] a gt = cut_right a e r l s gt
    cut_under-right (b ∷ q) a gt = child_right b (without (child q a)) l s gt

    pub cut_under-mid : (b : Label) (q : Path) (a : Label) → text_cmp b e.0 ≡ Equal → cut_under (b ∷ q) a (l ++ e ∷ r) ≡ l ++ (e.0, without (child q a) e.1) ∷ r
    cut_under-mid b q a eq = child_mid b (without (child q a)) l s eq

    pub cut_under-here : (a : Label) → text_cmp a e.0 ≡ Equal → cut_under [] a (l ++ e ∷ r) ≡ l ++ r
    cut_under-here a eq = cut_mid a e r l s eq

    -- what stands below
    get_left : (b : Label) (q : Path) → text_cmp b e.0 ≡ Less → get (branch Node (l ++ e ∷ r)) (b ∷ q) ≡ get (branch Node l) (b ∷ q)
    get_left b q lt =
        get-branch_child Node (l ++ e ∷ r) b q s ∙ ap (λ o. get_in o q) (find_left b e r l s lt) ∙ sym (get-branch_child Node l b q (sorted_front l (e ∷ r) s))

    get_right : (b : Label) (q : Path) → text_cmp b e.0 ≡ Greater → get (branch Node (l ++ e ∷ r)) (b ∷ q) ≡ get (branch Node r) (b ∷ q)
    get_right b q gt =
        get-branch_child Node (l ++ e ∷ r) b q s ∙ ap (λ o. get_in o q) (find_right b e r l s gt) ∙ sym (get-branch_child Node r b q (sorted_back (e ∷ []) r (sorted_back l (e ∷ r) s)))

    pub get_mid : (b : Label) (q : Path) → text_cmp b e.0 ≡ Equal → get (branch Node (l ++ e ∷ r)) (b ∷ q) ≡ get e.1 q
    get_mid b q eq = get-branch_child Node (l ++ e ∷ r) b q s ∙ ap (λ o. get_in o q) (find_mid b e r l s eq)

    pub node_left : (p : Path) (a : Label) → text_cmp (first_or p a) e.0 ≡ Less → get (branch Node (l ++ e ∷ r)) p ≡ Some Node → get (branch Node l) p ≡ Some Node
    node_left [] a lt h = get-branch_root Node l
    node_left (b ∷ q) a lt h = sym (get_left b q lt) ∙ h

    pub node_right : (p : Path) (a : Label) → text_cmp (first_or p a) e.0 ≡ Greater → get (branch Node (l ++ e ∷ r)) p ≡ Some Node → get (branch Node r) p ≡ Some Node
    node_right [] a gt h = get-branch_root Node r
    node_right (b ∷ q) a gt h = sym (get_right b q gt) ∙ h

    pub there_left : (p : Path) (a : Label) → text_cmp (first_or p a) e.0 ≡ Less → is_there (branch Node (l ++ e ∷ r)) (child p a) ≡ is_there (branch Node l) (child p a)
    there_left [] a lt = ap is_some (get_left a [] lt)
    there_left (b ∷ q) a lt = ap is_some (get_left b (child q a) lt)

    pub there_right : (p : Path) (a : Label) → text_cmp (first_or p a) e.0 ≡ Greater → is_there (branch Node (l ++ e ∷ r)) (child p a) ≡ is_there (branch Node r) (child p a)
    there_right [] a gt = ap is_some (get_right a [] gt)
    there_right (b ∷ q) a gt = ap is_some (get_right b (child q a) gt)

-- what stands below a root does not depend on what stands there
below_any : (x y : Content) (cs : Edges) → T (is_sorted text_cmp cs) → (b : Label) (q : Path) → get (branch x cs) (b ∷ q) ≡ get (branch y cs) (b ∷ q)
below_any x y cs s b q = get-branch_child x cs b q s ∙ sym (get-branch_child y cs b q s)

pub there_any : (x y : Content) (cs : Edges) → T (is_sorted text_cmp cs) → (q : Path) (a : Label) → is_there (branch x cs) (child q a) ≡ is_there (branch y cs) (child q a)
there_any x y cs s [] a = ap is_some (below_any x y cs s a [])
there_any x y cs s (b ∷ q) a = ap is_some (below_any x y cs s b (child q a))

pub node_any : (x : Content) (cs : Edges) → T (is_sorted text_cmp cs) → (q : Path) → get (branch x cs) q ≡ Some Node → get (branch Node cs) q ≡ Some Node
node_any x cs s [] h = get-branch_root Node cs
node_any x cs s (b ∷ q) h = below_any Node x cs s b q ∙ h

-- the tree of an edge among some that are within the limits
edge_small : (l : Edges) (e : Label × Tree) (r : Edges) → AreChildren (l ++ e ∷ r) → IsSmall e.1
edge_small l e r k =
    let one = children_front (e ∷ []) r (children_back l (e ∷ r) k) in
    record { nodes = omega (arith, one.small.nodes); inner = omega (arith, one.small.inner); size = omega (arith, one.small.size); depth = omega (arith, one.small.depth) }

-- the edges below an edge that changed
pub now_children : (l : Edges) (a : Label) (t : Tree) (r : Edges) (x : Content) (fs : Edges) → IsNow x fs t → AreChildren (l ++ (a, t) ∷ r) → AreChildren fs
now_children l a t r x fs h k = children_of x fs h.good (subst IsSmall (sym h.is) (edge_small l (a, t) r k))
