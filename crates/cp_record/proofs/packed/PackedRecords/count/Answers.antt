use Rattle.std.proofs.Common.{◌≤◌, ◌+◌, ◌^◌, length, arith}
use Rattle.cp_record.specs.Bytes.{records_bytes}
use Rattle.cp_record.proofs.Kept.{fewer_than_bytes}
use Rattle.cp_record.proofs.packed.PackedRecords.count.Goals as goal

pub overflow_add-count : goal.overflow_add-count
overflow_add-count c = omega (arith, c.loop-rest.invariant, fewer_than_bytes c.args.self.now, c.len.ensures.bound)
