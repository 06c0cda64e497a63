use Rattle.std.proofs.Common.{length}
use Rattle.cp_record.proofs.Kept.{Left}
use Rattle.cp_record.proofs.packed.PackedRecords.records.Given as goal

abbrev pub decreases-loop-rest : goal.decreases-loop-rest
decreases-loop-rest l = length l.rest

abbrev pub invariant-loop-rest : goal.invariant-loop-rest
invariant-loop-rest l = Left l.self l.items.items l.rest
