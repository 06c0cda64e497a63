use denote.Text.{Utf8}
use denote.Shadow.{shadow}
use Rattle.cp_device_calls.proofs.show.+tree.Given as goal

abbrev pub decreases-add_children : goal.decreases-add_children
decreases-add_children l = goal.size-add_children l

abbrev pub decreases-add_tree : goal.decreases-add_tree
decreases-add_tree l = goal.size-add_tree l

-- what stands between two children is text
abbrev pub invariant-add_children-loop-edge : goal.invariant-add_children-loop-edge
invariant-add_children-loop-edge l = shadow (Utf8 l.between)
