-- Each child has fewer places than its parent.
use Rattle.std.specs.Prelude.{◌+◌, ◌≤◌, List, [], ◌∷◌}
use Rattle.std.proofs.Common.{arith}
use Rattle.std.specs.Map.{values_of}
use denote.Param.Weighed.{most}
use Rattle.cp_model.specs.Place.{Label}
use Rattle.cp_model.specs.Tree.{Tree}
use Rattle.cp_model.specs.Keyed as keyed
use Rattle.cp_tree.specs.Branch.{children_len}
use Rattle.cp_tree.proofs.Totals.{len-branch}
use Rattle.cp_tree_box.specs.declared.node.BoxNode.TheInside.{Inside}
use Rattle.cp_tree_box.specs.declared.node.BoxNode.TheDeep.{deep-BoxNode}
use Rattle.cp_tree_box.specs.Nodes.{tree_inside, IsGoodNode}

most_le : (es : List (Label × Tree)) → most (λ k. keyed.len k + 1) (values_of es) ≤ children_len es + 1
most_le [] = omega arith
most_le (e ∷ es) = omega (arith, most_le es)

-- the greatest of the children is less than the whole
pub node_falls : (a : Inside) → IsGoodNode a → deep-BoxNode a ≤ keyed.len (tree_inside a)
node_falls a h = omega (arith, most_le a.children.entries, len-branch a.content a.children.entries h.sorted)
