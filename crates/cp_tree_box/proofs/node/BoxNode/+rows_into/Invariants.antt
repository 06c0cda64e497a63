use Rattle.std.proofs.Common.{◌≡◌, ◌++◌, ◌+◌, ◌≤◌, map}
use Rattle.cp_model.specs.Keyed.{len}
use Rattle.cp_model.specs.Subtrees.{entries_under}
use Rattle.cp_tree.specs.Branch.{child_rows, children_len}
use Rattle.cp_tree.specs.Rows.{entry_row}
use Rattle.cp_tree_box.proofs.node.BoxNode.+rows_into.Given as goal

abbrev pub invariant-loop-label : goal.invariant-loop-label
invariant-loop-label l = record {
  same_place : l.at.items ≡ l.initial.at.items;
  rows : l.out.items ++ map entry_row (entries_under l.initial.at.items (child_rows l.label-iterator)) ≡ l.initial.out.items ++ map entry_row (entries_under l.initial.at.items (child_rows l.initial.label-iterator));
  fewer : children_len l.label-iterator + 1 ≤ len l.fn.self;
}

abbrev pub decreases-rows_into : goal.decreases-rows_into
decreases-rows_into l = goal.size-rows_into l
