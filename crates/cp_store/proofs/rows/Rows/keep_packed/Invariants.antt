use Rattle.std.proofs.Common.{◌≡◌, ◌+◌, length}
use Rattle.cp_store.proofs.PackedRows.{KeepsSome}
use Rattle.cp_store.proofs.rows.Rows.keep_packed.Given as goal

abbrev pub invariant-loop-row : goal.invariant-loop-row
invariant-loop-row l = record { kept : KeepsSome l.fn.self.list l.self.list l.fn.rows l.rest; upto : l.self.upto ≡ l.fn.self.upto + l.fn.tids }

abbrev pub decreases-loop-row : goal.decreases-loop-row
decreases-loop-row l = length l.rest
