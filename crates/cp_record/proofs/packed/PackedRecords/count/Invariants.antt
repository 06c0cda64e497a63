use Rattle.std.proofs.Common.{◌≡◌, ◌+◌, length}
use Rattle.cp_record.proofs.packed.PackedRecords.count.Given as goal

abbrev pub invariant-loop-rest : goal.invariant-loop-rest
invariant-loop-rest l = length l.self ≡ l.count + length l.rest

abbrev pub decreases-loop-rest : goal.decreases-loop-rest
decreases-loop-rest l = length l.rest
