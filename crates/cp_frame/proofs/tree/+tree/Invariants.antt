use Rattle.std.proofs.Common.{◌≡◌, ◌+◌, ◌*◌}
use Rattle.cp_frame.proofs.TreeReading.{HaveRead}
use Rattle.cp_frame.proofs.tree.+tree.Given as goal

-- a child lies a level down
abbrev pub decreases-child_at : goal.decreases-child_at
decreases-child_at l = 3 * l.room.now.levels

abbrev pub decreases-children_at : goal.decreases-children_at
decreases-children_at l = 3 * l.room.now.levels + 1

abbrev pub decreases-tree_at : goal.decreases-tree_at
decreases-tree_at l = 3 * l.room.now.levels + 2

abbrev pub invariant-children_at-loop : goal.invariant-children_at-loop
invariant-children_at-loop l = record {
  read : HaveRead l.bytes l.at l.count l.fn.room l.counter l.items.items l.next l.room;
  levels : l.room.levels ≡ l.fn.room.levels;
}
