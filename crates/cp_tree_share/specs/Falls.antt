-- Each part of a fork, of an entry and of a node has fewer places.
use Rattle.std.specs.Prelude.{◌≡◌, ◌+◌, ◌*◌, ◌≤◌, ◌<◌, List, [], ◌∷◌, ◌++◌, max, length, true, is_some, ⊤}
use Rattle.std.proofs.Common.{arith}
use Rattle.cp_model.specs.Place.{Label, Path}
use Rattle.cp_model.specs.Keyed as keyed
use Rattle.cp_model.specs.Keyed.{look, Keyed}
use Rattle.cp_model.specs.Tree.{Tree, IsRooted}
use Rattle.cp_model.specs.declared.row.Content.{Content}
use Rattle.cp_tree.specs.Branch.{children_len}
use Rattle.cp_tree.specs.Good.{AllRooted}
use Rattle.cp_tree.proofs.Totals.{len-branch}
use Rattle.cp_tree.proofs.SumsLemmas.{children_len-append}
use Rattle.cp_tree_share.specs.declared.forest.Open.{Open}
use Rattle.cp_tree_share.specs.declared.forest.Open.TheVariants.{Tip, Full}
use Rattle.cp_tree_share.specs.declared.forest.Entry.TheInside as entry
use Rattle.cp_tree_share.specs.declared.forest.ShareNode.TheInside as node
use Rattle.cp_tree_share.specs.declared.forest.Entry.TheDeep.{deep-Open, deep-Entry, deep-ShareNode}
use Rattle.cp_tree_share.specs.Siblings.{Edges, siblings_of, AreBalanced}
use Rattle.cp_tree_share.specs.Nodes.{tree_inside, IsGoodNode}

-- a rooted tree has a place
pub some_place : (n : Tree) → IsRooted n → 0 < keyed.len n
unfolding keyed.len keyed.get
some_place n h = by n.list h.root
  where
    by : (es : List (Path × Content)) → is_some (look [] es) ≡ true → 0 < length es
    by [] e = absurd (cc)
    by (x ∷ es) e = omega arith

pub rooted_at : (l : Edges) (e : Label × Tree) (r : Edges) → AllRooted (l ++ e ∷ r) → IsRooted e.1
rooted_at [] e r h = h.0
rooted_at (y ∷ l) e r h = rooted_at l e r h.1

-- the parts of siblings
pub forest_falls : (o : Open) → AreBalanced o → max (deep-Open o) 0 ≤ 3 * children_len (siblings_of o).0 + 2
forest_falls Tip h = omega arith
forest_falls (Full f) h =
    let v = f.value in
    omega (arith, children_len-append v.left.0 (v.entry ∷ v.right.0), some_place v.entry.1 (rooted_at v.left.0 v.entry v.right.0 h.children.rooted))

-- the node of an entry
pub entry_falls : (e : entry.Inside) → ⊤ → deep-Entry e ≤ 3 * keyed.len e.node + 1
entry_falls e g = omega arith

-- the children of a node
pub node_falls : (a : node.Inside) → IsGoodNode a → deep-ShareNode a ≤ 3 * keyed.len (tree_inside a)
node_falls a g = omega (arith, len-branch a.content a.children.0 g.sorted)
