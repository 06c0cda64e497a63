use Rattle.std.proofs.Common.{◌≡◌, ◌+◌, ◌++◌, length, drop}
use Rattle.cp_model.specs.Literals.{edge_rows}
use Rattle.cp_model.specs.Subtrees.{below}
use Rattle.cp_tree.proofs.Labels.{label_rows}
use Rattle.cp_tree.proofs.literal.+subtree.Given as goal

abbrev pub decreases-edges_at : goal.decreases-edges_at
decreases-edges_at g l = length (below l.place.now (g.R.TreeRep.contents l.tree.now)) + length (below l.place.now (g.R.TreeRep.contents l.tree.now))

abbrev pub decreases-literal_at : goal.decreases-literal_at
decreases-literal_at g l = length (below l.place.now (g.R.TreeRep.contents l.tree.now)) + length (below l.place.now (g.R.TreeRep.contents l.tree.now)) + 1

-- the rows of the edges so far, and those of the labels to come
abbrev pub invariant-edges_at-loop-label : goal.invariant-edges_at-loop-label
invariant-edges_at-loop-label g l = record {
  so_far : edge_rows l.items.items ++ label_rows (g.R.TreeRep.contents l.tree) l.place (drop l.label-index l.label-items) ≡ label_rows (g.R.TreeRep.contents l.tree) l.place l.label-items;
}
