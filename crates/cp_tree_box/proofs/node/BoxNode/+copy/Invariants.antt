use Rattle.std.proofs.Common.{◌≡◌, ◌++◌, ◌+◌, ◌≤◌}
use Rattle.cp_model.specs.Keyed.{len}
use Rattle.cp_tree.specs.Branch.{children_len}
use Rattle.cp_tree_box.proofs.node.BoxNode.+copy.Given as goal

abbrev pub invariant-loop-label : goal.invariant-loop-label
invariant-loop-label l = record {
  all : l.children.entries ++ l.label-iterator ≡ l.initial.label-iterator;
  fewer : children_len l.label-iterator + 1 ≤ len l.fn.self;
}

abbrev pub decreases-copy : goal.decreases-copy
decreases-copy l = goal.size-copy l
