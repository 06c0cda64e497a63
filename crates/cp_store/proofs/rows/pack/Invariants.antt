use Rattle.std.proofs.Common.{◌≡◌, take}
use Rattle.cp_store.proofs.rows.pack.Given as goal

abbrev pub invariant-loop-row : goal.invariant-loop-row
invariant-loop-row l = l.packed ≡ take l.row-index l.rows
