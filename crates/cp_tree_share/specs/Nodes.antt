-- What a node is seen as.
use Rattle.cp_model.specs.Tree.{Tree}
use Rattle.cp_tree.specs.Branch.{branch}
use Rattle.cp_tree.specs.Good.{IsGood}
use Rattle.cp_tree_share.specs.declared.forest.ShareNode.TheInside.{Inside}

-- the tree of what stands at the node, and of the nodes below it
abbrev pub tree_inside : Inside → Tree
tree_inside a = branch a.content a.children.0

-- the labels below rise, a leaf has none, and each leads to a rooted tree
abbrev pub IsGoodNode : Inside → Type 0
IsGoodNode a = IsGood a.content a.children.0
