-- The edges below a root after one change: its tree with a subtree put, or dropped.
use Rattle.std.proofs.Common.{◌≡◌, true, false, [], ◌∷◌, Option, Some, None, sym, ap, subst, ◌∙◌, refl}
use Rattle.std.specs.Prelude.{is_some}
use Rattle.std.specs.FinMap.Entries.{find, put}
use Rattle.cp_path.specs.Text.{text_cmp}
use Rattle.cp_model.specs.declared.row.Content.{Content}
use Rattle.cp_model.specs.declared.row.Content.TheVariants.{Node}
use Rattle.cp_model.specs.Place.{Label, Path, child}
use Rattle.cp_model.specs.Keyed.{get, entries}
use Rattle.cp_model.specs.Subtrees.{with_subtree, without, is_there}
use Rattle.cp_model.specs.Tree.{Tree, IsRooted}
use Rattle.cp_tree.specs.Branch.{branch, without_child}
use Rattle.cp_tree.specs.Good.{IsGood}
use Rattle.cp_tree.specs.Sums.{AreChildren, IsSmall}
use Rattle.cp_tree.proofs.Changes.{put_below, cut_below}
use Rattle.cp_tree.proofs.GoodLemmas.{IsNow, changed_here, dropped_here, get_nothing, node_of_child, node_of_root}
use Rattle.cp_tree.proofs.Small.{children_of}
use Rattle.cp_tree_arena.specs.Shapes.{Edges}
use Rattle.cp_tree_arena.specs.Changes.{changed_child, put_under, cut_under}

module _ (x : Content) (es : Edges) (g : IsGood x es) where
  -- where something stands below, the root is a node
  node_above : (b : Label) (q : Path) → is_there (branch x es) (b ∷ q) ≡ true → x ≡ Node
  node_above b q i = by (find text_cmp b es) refl
    where
      by : (o : Option Tree) → find text_cmp b es ≡ o → x ≡ Node
      by None e = absurd (let no : false ≡ true = sym (ap is_some (get_nothing (branch x es) x es es b refl g q e)) ∙ i in cc)
      by (Some k) e = node_of_child x es b k g.bare e

  pub node_at_root : (p : Path) → get (branch x es) p ≡ Some Node → x ≡ Node
  node_at_root [] e = node_of_root x es e
  node_at_root (b ∷ q) e = node_above b q (ap is_some e)

  pub node_over : (p : Path) (a : Label) → is_there (branch x es) (child p a) ≡ true → x ≡ Node
  node_over [] a i = node_above a [] i
  node_over (b ∷ q) a i = node_above b (child q a) i

  module _ (a : Label) (n : Tree) (r : IsRooted n) where
    -- a tree put below a node
    pub put_under-is : (p : Path) → get (branch x es) p ≡ Some Node → IsNow x (put_under p a n es) (with_subtree (child p a) (entries n) (branch x es))
    put_under-is [] e = changed_here (branch x es) x es (put text_cmp a n es) a refl g n e r refl
    put_under-is (b ∷ q) e = by (find text_cmp b es) refl
      where
        by : (o : Option Tree) → find text_cmp b es ≡ o → IsNow x (changed_child b (with_subtree (child q a) (entries n)) o es) (with_subtree (b ∷ child q a) (entries n) (branch x es))
        by None f = absurd (let none = sym (get_nothing (branch x es) x es es b refl g q f) ∙ e in cc)
        by (Some k) f = put_below (branch x es) x es refl g b k f q a n r e (put text_cmp b (with_subtree (child q a) (entries n) k) es) (with_subtree (child q a) (entries n) k) refl refl

    pub put_under-small : (p : Path) → get (branch x es) p ≡ Some Node → IsSmall (with_subtree (child p a) (entries n) (branch x es)) → AreChildren (put_under p a n es)
    put_under-small p e s = (let h = put_under-is p e in children_of x (put_under p a n es) h.good (subst IsSmall (sym h.is) s))

  module _ (a : Label) where
    -- what stands at a label below a place is dropped
    pub cut_under-is : (p : Path) → is_there (branch x es) (child p a) ≡ true → IsNow x (cut_under p a es) (without (child p a) (branch x es))
    cut_under-is [] i = dropped_here (branch x es) x es (without_child a es) a refl g refl
    cut_under-is (b ∷ q) i = by (find text_cmp b es) refl
      where
        by : (o : Option Tree) → find text_cmp b es ≡ o → IsNow x (changed_child b (without (child q a)) o es) (without (b ∷ child q a) (branch x es))
        by None f = absurd (let no : false ≡ true = sym (ap is_some (get_nothing (branch x es) x es es b refl g (child q a) f)) ∙ i in cc)
        by (Some k) f = cut_below (branch x es) x es refl g b k f q a (put text_cmp b (without (child q a) k) es) (without (child q a) k) refl refl

    pub cut_under-small : (p : Path) → is_there (branch x es) (child p a) ≡ true → IsSmall (without (child p a) (branch x es)) → AreChildren (cut_under p a es)
    cut_under-small p i s = (let h = cut_under-is p i in children_of x (cut_under p a es) h.good (subst IsSmall (sym h.is) s))
