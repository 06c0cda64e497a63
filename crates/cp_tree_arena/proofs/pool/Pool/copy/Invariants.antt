use Rattle.std.proofs.Common.{◌≡◌, take}
use Rattle.cp_tree_arena.proofs.pool.Pool.copy.Given as goal

abbrev pub invariant-loop-slot : goal.invariant-loop-slot
invariant-loop-slot l = l.slots.items ≡ take l.slot-index l.slot-items
