-- What a subtree that was found, or put at a place, says of the whole tree: its children, its root and its numbers.
use Rattle.std.proofs.Common.{◌≡◌, true, List, [], ◌∷◌, ◌++◌, length, sym, ap, ◌∙◌, arith, Some, None}
use Rattle.std.specs.FinMap.Entries.{find}
use Rattle.cp_path.specs.Text.{text_cmp}
use Rattle.cp_model.specs.Place.{Label, Path, child}
use Rattle.cp_model.specs.Keyed.{get, entries, len}
use Rattle.cp_model.specs.Subtrees.{with_subtree, is_there, below}
use Rattle.cp_model.specs.Tree.{Tree, IsTree, weight}
use Rattle.cp_model.specs.declared.row.Content.{Content}
use Rattle.cp_model.specs.declared.row.Content.TheVariants.{Node}
use Rattle.cp_tree.specs.Branch.{branch, sub}
use Rattle.cp_tree.specs.Good.{IsGood}
use Rattle.cp_tree.specs.Rows.{reach_of}
use Rattle.cp_tree.specs.declared.reach.Reach.{Reach}
use Rattle.cp_tree.proofs.Answering.{sub-child, sub-replaced}
use Rattle.cp_tree.proofs.BranchLemmas.{entries-sub, get-sub, sub-root}
use Rattle.cp_tree.proofs.GoodLemmas.{sub_below, get_nothing}

-- a list of no elements
pub no_length : {A : Type 0} (xs : List A) → length xs ≡ 0 → xs ≡ []
no_length [] e = λ i. []
no_length (x ∷ xs) e = absurd (omega arith)

-- the child of a node that was found at p in m
module _ (m n : Tree) (x : Content) (es : List (Label × Tree)) (p : Path) (a : Label) (at : n ≡ sub m p) (view : branch x es ≡ n) (g : IsGood x es) where
  pub child_there : (k : Tree) → find text_cmp a es ≡ Some k → k ≡ sub m (child p a)
  child_there k is = sym (sub_below n x es es a view g [] k is ∙ sub-root k) ∙ sub-child m n p a at

  pub child_gone : find text_cmp a es ≡ None → get m (child p a) ≡ None
  child_gone is = sym (get-sub m p (a ∷ [])) ∙ ap (λ z. get z (a ∷ [])) (sym at) ∙ get_nothing n x es es a view g [] is

-- a tree put at the root
pub root_put : (m n : Tree) → with_subtree [] (entries n) m ≡ n
root_put m n = sym (sub-root (with_subtree [] (entries n) m)) ∙ sub-replaced m n []

-- the parent of a place that is there is a node
pub parent_is : (m : Tree) (p q : Path) (a : Label) → IsTree m → p ≡ q ++ a ∷ [] → is_there m p ≡ true → get m q ≡ Some Node
parent_is m p q a t e i = t.rooted.parents q a (ap (is_there m) (sym e) ∙ i)

-- the number of places and the weight, of what a tree reaches
pub reach_count : (t : Tree) (r : Reach) → r ≡ reach_of (entries t) → r.nodes ≡ len t
unfolding reach_of len entries
reach_count t r e = ap (λ z. z.nodes) e

pub reach_weight : (t : Tree) (r : Reach) → r ≡ reach_of (entries t) → r.inner ≡ weight t
unfolding reach_of weight
reach_weight t r e = ap (λ z. z.inner) e

-- the whole of another tree put at the root
pub whole_put : (m n : Tree) → with_subtree [] (below [] n) m ≡ n
whole_put m n = ap (λ z. with_subtree [] z m) (sym (entries-sub n []) ∙ ap entries (sub-root n)) ∙ root_put m n
