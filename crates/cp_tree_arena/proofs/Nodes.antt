-- What is found below a node, one label after the other.
use Rattle.std.proofs.Common.{◌≡◌, true, false, List, [], ◌∷◌, ◌++◌, Option, Some, None, sym, ap, ◌∙◌, refl}
use Rattle.std.specs.Prelude.{is_some, IfSome, IfNone}
use Rattle.std.specs.FinMap.Entries.{find}
use Rattle.cp_path.specs.Text.{text_cmp}
use Rattle.cp_model.specs.declared.row.Content.{Content}
use Rattle.cp_model.specs.Place.{Label, Path, child}
use Rattle.cp_model.specs.Keyed.{get}
use Rattle.cp_model.specs.Subtrees.{is_there}
use Rattle.cp_model.specs.Tree.{Tree}
use Rattle.cp_model.proofs.KeyedLemmas.{same_map}
use Rattle.cp_tree.specs.Branch.{branch, sub}
use Rattle.cp_tree.specs.Good.{IsGood}
use Rattle.cp_tree.proofs.Answering.{root_of}
use Rattle.cp_tree.proofs.BranchLemmas.{get-branch_root, get-sub}
use Rattle.cp_tree.proofs.GoodLemmas.{get_below, get_nothing, rooted_found}
use Rattle.cp_tree_arena.specs.declared.node.ArenaNode.{ArenaNode}
use Rattle.cp_tree_arena.specs.Kept.{edges_at, tree_at}

module _ (m n : Tree) (a : Label) (at : n ≡ sub m (a ∷ [])) where
  -- a subtree of the child at a
  pub sub_further : (p : Path) → sub n p ≡ sub m (a ∷ p)
  sub_further p = same_map (sub n p) (sub m (a ∷ p)) (λ q. get-sub n p q ∙ get_further q)
    where
      get_further : (q : Path) → get n (p ++ q) ≡ get (sub m (a ∷ p)) q
      get_further q = ap (λ z. get z (p ++ q)) at ∙ get-sub m (a ∷ []) (p ++ q) ∙ sym (get-sub m (a ∷ p) q)

  -- and what stands below it
  pub get_further : (p : Path) → get n p ≡ get m (a ∷ p)
  get_further p = ap (λ z. get z p) at ∙ get-sub m (a ∷ []) p

-- where no child stands, nothing stands below
pub gone_further : (x : Content) (es : List (Label × Tree)) (a : Label) (p : Path) → IsGood x es → get (branch x es) (a ∷ []) ≡ None → get (branch x es) (a ∷ p) ≡ None
gone_further x es a p g h = by (find text_cmp a es) refl
  where
    by : (o : Option Tree) → find text_cmp a es ≡ o → get (branch x es) (a ∷ p) ≡ None
    by None e = get_nothing (branch x es) x es es a refl g p e
    by (Some k) e =
        (let none = sym (get_below (branch x es) x es es a refl g [] k e) ∙ h in
        let no : false ≡ true = sym (ap is_some none) ∙ (rooted_found a es k g.trees e).root in
        absurd (cc))

-- the tree of a node that is read
abbrev pub node_tree : ArenaNode → Tree
node_tree n = tree_at n.slots.now n.content.now n.children.number

-- what stands at a node that was found
pub content_there : (n : ArenaNode) (m : Tree) (p q : Path) → node_tree n ≡ sub m q → q ≡ p → get m p ≡ Some n.content.now
content_there n m p q e k = sym (root_of (node_tree n) m p q e k) ∙ get-branch_root n.content.now (edges_at n.slots.now n.children.number)

-- whether a node was found is whether one is there
pub found_there : (o : Option ArenaNode) (m : Tree) (p : Path) → IfSome o (λ n. node_tree n ≡ sub m p) → IfNone o (get m p ≡ None) → is_some o ≡ is_there m p
found_there None m p t g = sym (ap is_some g)
found_there (Some n) m p t g = sym (ap is_some (content_there n m p p t refl))

-- what stands at the child of a subtree
pub child_of : (n m : Tree) (q : Path) (a : Label) → n ≡ sub m q → get n (a ∷ []) ≡ get m (child q a)
child_of n m q a e = ap (λ z. get z (a ∷ [])) e ∙ get-sub m q (a ∷ [])
