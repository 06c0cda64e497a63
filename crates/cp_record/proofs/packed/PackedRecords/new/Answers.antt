use Rattle.std.proofs.Common.{[]}
use Rattle.cp_record.specs.Bytes.{records_bytes}
use Rattle.cp_record.proofs.Decoded.{records_in-bytes, packed-bytes}
use Rattle.cp_record.proofs.packed.PackedRecords.new.Goals as goal

pub invariant_of-result : goal.invariant_of-result
unfolding records_bytes
invariant_of-result c = packed-bytes [] c.new.result.items tt c.new.ensures.items

pub returns : goal.returns
unfolding records_bytes
returns c = records_in-bytes [] c.new.result.items tt c.new.ensures.items
