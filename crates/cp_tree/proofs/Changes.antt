-- A change below an edge: it keeps what the siblings keep, and its result is within the limits where the whole is.
use Rattle.std.specs.Prelude.{◌≡◌, true, cond, List, [], ◌∷◌, ◌++◌, is_some, refl}
use Rattle.std.proofs.Common.{sym, ap, subst, ◌∙◌, append_assoc}
use Rattle.std.specs.declared.option.Option.TheVariants.{None, Some}
use Rattle.std.specs.Ordering.{is_eq}
use Rattle.std.specs.Cmp.{tied_itself}
use Rattle.std.specs.FinMap.Entries.{find, put, find-put}
use Rattle.cp_path.specs.Text.{text_cmp}
use Rattle.cp_model.specs.Place.{Label, Path, child, strip}
use Rattle.cp_model.specs.Keyed.{get, entries, look}
use Rattle.cp_model.proofs.KeyedLemmas.{get-entries}
use Rattle.cp_model.specs.Subtrees.{with_subtree, without, is_there}
use Rattle.cp_model.specs.Laws.{at_rest_or}
use Rattle.cp_model.proofs.Lookups.{get-replaced}
use Rattle.cp_model.proofs.Strips.{strip_is, strip-append, strip-snoc, append-nil, snoc-same, path_ind}
use Rattle.cp_model.specs.Tree.{Tree, IsRooted}
use Rattle.cp_model.proofs.Rooted.{IsUnderNode, rooted-without, under-child}
use Rattle.cp_model.specs.declared.row.Content.{Content}
use Rattle.cp_model.specs.declared.row.Content.TheVariants.{Node}
use Rattle.cp_tree.specs.Branch.{branch, without_child}
use Rattle.cp_tree.specs.Good.{IsGood}
use Rattle.cp_tree.specs.Sums.{AreChildren, IsSmall}
use Rattle.cp_tree.proofs.BranchLemmas.{label_total, get-branch_root, replaced_here, replaced_below, without_below}
use Rattle.cp_tree.proofs.GoodLemmas.{IsNow, node_of_child, get_below, changed_here, changed_below, dropped_here, dropped_below, rooted_found}
use Rattle.cp_tree.proofs.Small.{children_of, small_found}

-- a rooted tree put below a node leaves a tree rooted
pub rooted-put : (t : Tree) (p : Path) (n : Tree) → IsRooted t → IsRooted n → IsUnderNode t p → IsRooted (with_subtree p (entries n) t)
rooted-put t p n h d up = record { root = ap is_some (get-replaced p (entries n) t []) ∙ root_at p; parents = parents }
  where
    new_at : (s : Path) → look s (entries n) ≡ get n s
    new_at s = sym (get-entries n s)

    root_at : (p : Path) → is_some (at_rest_or (strip p []) (λ s. look s (entries n)) (get t [])) ≡ true
    root_at [] = ap is_some (new_at []) ∙ d.root
    root_at (a ∷ p) = h.root

    over : (r : Path) (a : Label) → strip p r ≡ None → (s : Path) → r ++ a ∷ [] ≡ p ++ s → get t r ≡ Some Node
    over r a e = path_ind (λ s. r ++ a ∷ [] ≡ p ++ s → get t r ≡ Some Node)
        (λ k. up r a (k ∙ append-nil p))
        (λ s b _ k. let j = ap (strip p) (snoc-same r (p ++ s) a b (k ∙ sym (append_assoc p s (b ∷ [])))) in absurd (cc (strip-append p s)))

    parents : (r : Path) (a : Label) → is_there (with_subtree p (entries n) t) (child r a) ≡ true → get (with_subtree p (entries n) t) r ≡ Some Node
    parents r a i = get-replaced p (entries n) t r ∙ elim (strip p r) as (λ o. strip p r ≡ o → at_rest_or o (λ s. look s (entries n)) (get t r) ≡ Some Node) [
      | Some s ↦ λ k. new_at s ∙ d.parents s a (ap is_some (sym (new_at (child s a))) ∙ sym (ap is_some (get-replaced p (entries n) t (child r a) ∙ ap (λ o. at_rest_or o (λ s. look s (entries n)) (get t (child r a))) (strip-snoc p r s a k))) ∙ i)
      | None ↦ λ e. elim (strip p (child r a)) as (λ o. strip p (child r a) ≡ o → is_some (at_rest_or o (λ s. look s (entries n)) (get t (child r a))) ≡ true → get t r ≡ Some Node) [
        | None ↦ λ _ j. h.parents r a j
        | Some s ↦ λ k _. over r a e s (strip_is p (child r a) s k)
      ] refl (sym (ap is_some (get-replaced p (entries n) t (child r a))) ∙ i)
    ] refl

-- a tree at an edge has small numbers where the whole has
small_child : (m : Tree) (x : Content) (fs : List (Label × Tree)) (b : Label) (t : Tree) → IsNow x fs m → find text_cmp b fs ≡ Some t → IsSmall m → IsSmall t
small_child m x fs b t h is s = small_found b t fs is (children_of x fs h.good (subst IsSmall (sym h.is) s)).small

found_put : (b : Label) (t : Tree) (es : List (Label × Tree)) → find text_cmp b (put text_cmp b t es) ≡ Some t
found_put b t es = find-put text_cmp label_total b b t es ∙ ap (λ o. cond (is_eq o) (Some t) (find text_cmp b es)) (tied_itself label_total b)

-- the edges of a node with one put among them are within the limits where the whole is
pub put_children : (m : Tree) (x : Content) (es : List (Label × Tree)) (a : Label) (n : Tree) → branch x es ≡ m → IsGood x es → get m [] ≡ Some Node → IsRooted n → IsSmall (with_subtree (a ∷ []) (entries n) m) → AreChildren (put text_cmp a n es)
put_children m x es a n view g node r s = let h = changed_here m x es (put text_cmp a n es) a view g n node r refl in children_of x (put text_cmp a n es) h.good (subst IsSmall (sym h.is) s)

-- and so are they with one dropped
pub dropped_children : (m : Tree) (x : Content) (es : List (Label × Tree)) (a : Label) → branch x es ≡ m → IsGood x es → IsSmall (without (a ∷ []) m) → AreChildren (without_child a es)
dropped_children m x es a view g s = let h = dropped_here m x es (without_child a es) a view g refl in children_of x (without_child a es) h.good (subst IsSmall (sym h.is) s)

-- the tree k at the edge b of m
module _ (m : Tree) (x : Content) (es : List (Label × Tree)) (view : branch x es ≡ m) (g : IsGood x es) (b : Label) (k : Tree) (is : find text_cmp b es ≡ Some k) (q : Path) (a : Label) where
  -- the node of m is one
  pub node_here : get m [] ≡ Some Node
  node_here = ap (λ z. get z []) (sym view) ∙ get-branch_root x es ∙ ap (λ z. Some z) (node_of_child x es b k g.bare is)

  as_child : (t m2 : Tree) → m2 ≡ branch x (put text_cmp b t es) → m2 ≡ with_subtree (b ∷ []) (entries t) m
  as_child t m2 e = e ∙ sym (replaced_here x es b t g.sorted) ∙ ap (with_subtree (b ∷ []) (entries t)) view

  -- a rooted tree n put below a node of k
  module _ (n : Tree) (r : IsRooted n) (node : get m (b ∷ q) ≡ Some Node) where
    pub node_below : get k q ≡ Some Node
    node_below = sym (get_below m x es es b view g q k is) ∙ node

    pub rooted_below : IsRooted (with_subtree (child q a) (entries n) k)
    rooted_below = rooted-put k (child q a) n (rooted_found b es k g.trees is) r (under-child k q a node_below)

    -- the edges after it
    pub put_below : (fs : List (Label × Tree)) (t : Tree) → t ≡ with_subtree (child q a) (entries n) k → put text_cmp b t es ≡ fs → IsNow x fs (with_subtree (b ∷ child q a) (entries n) m)
    put_below fs t at e = changed_below m x es fs b view g (child q a) (entries n) k t is (subst IsRooted (sym at) rooted_below) at e

    -- it is as if the whole of k was put
    pub put_as_child : with_subtree (b ∷ child q a) (entries n) m ≡ with_subtree (b ∷ []) (entries (with_subtree (child q a) (entries n) k)) m
    put_as_child = as_child (with_subtree (child q a) (entries n) k) (with_subtree (b ∷ child q a) (entries n) m)
        (ap (with_subtree (b ∷ child q a) (entries n)) (sym view) ∙ replaced_below x es b (child q a) (entries n) k g.sorted is)

    pub small_below : IsSmall (with_subtree (b ∷ child q a) (entries n) m) → IsSmall (with_subtree (child q a) (entries n) k)
    small_below s =
        let t = with_subtree (child q a) (entries n) k in
        small_child (with_subtree (b ∷ child q a) (entries n) m) x (put text_cmp b t es) b t (put_below (put text_cmp b t es) t refl refl) (found_put b t es) s

  -- what stands at a label below a node of k is dropped
  pub rooted_cut : IsRooted (without (child q a) k)
  rooted_cut = rooted-without k q a (rooted_found b es k g.trees is)

  -- the edges after it
  pub cut_below : (fs : List (Label × Tree)) (t : Tree) → t ≡ without (child q a) k → put text_cmp b t es ≡ fs → IsNow x fs (without (b ∷ child q a) m)
  cut_below fs t at e = dropped_below m x es fs b view g (child q a) k t is (subst IsRooted (sym at) rooted_cut) at e

  -- it is as if the whole of k was put
  pub cut_as_child : without (b ∷ child q a) m ≡ with_subtree (b ∷ []) (entries (without (child q a) k)) m
  cut_as_child = as_child (without (child q a) k) (without (b ∷ child q a) m) (ap (without (b ∷ child q a)) (sym view) ∙ without_below x es b (child q a) k g.sorted is)

  pub small_cut : IsSmall (without (b ∷ child q a) m) → IsSmall (without (child q a) k)
  small_cut s =
      let t = without (child q a) k in
      small_child (without (b ∷ child q a) m) x (put text_cmp b t es) b t (cut_below (put text_cmp b t es) t refl refl) (found_put b t es) s
