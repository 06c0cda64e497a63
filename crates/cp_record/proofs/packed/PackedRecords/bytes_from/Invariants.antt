use Rattle.std.proofs.Common.{◌≡◌, drop}
use Rattle.cp_record.specs.Bytes.{records_bytes}
use Rattle.cp_record.proofs.packed.PackedRecords.bytes_from.Given as goal

abbrev pub invariant-loop : goal.invariant-loop
invariant-loop l = l.rest ≡ records_bytes (drop l.counter l.self)
