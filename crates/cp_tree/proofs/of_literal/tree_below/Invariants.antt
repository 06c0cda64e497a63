use Rattle.std.proofs.Common.{◌≡◌, take}
use Rattle.cp_tree.proofs.Siblings.{node_tree}
use Rattle.cp_tree.proofs.of_literal.tree_below.Given as goal

-- the tree of the edges so far
abbrev pub invariant-loop-edge : goal.invariant-loop-edge
invariant-loop-edge g l = g.R.TreeRep.contents l.tree ≡ node_tree (take l.edge-index l.edge-items)
