use Rattle.std.proofs.Common.{◌≡◌, take}
use Rattle.cp_operation.proofs.copy.+copying.Given as goal

abbrev pub invariant-copy_edges-loop-edge : goal.invariant-copy_edges-loop-edge
invariant-copy_edges-loop-edge l = l.items.items ≡ take l.edge-index l.edge-items
