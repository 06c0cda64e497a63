use Rattle.std.proofs.Common.{◌≡◌, ◌++◌}
use Rattle.std.specs.Map.{keys_of}
use Rattle.cp_tree_box.proofs.node.BoxNode.labels.Given as goal

abbrev pub invariant-loop-label : goal.invariant-loop-label
invariant-loop-label l = l.labels.items ++ keys_of l.label-iterator ≡ keys_of l.initial.label-iterator
