use Rattle.std.proofs.Common.{[], ap, ◌∙◌}
use Rattle.cp_model.specs.declared.record.Record.{Record as RecordValue}
use Rattle.cp_record.proofs.Iterating.{packed-one, only-record}
use Rattle.cp_record.proofs.packed_record.PackedRecord.of.Goals as goal

pub invariant_of-result : goal.invariant_of-result
invariant_of-result c = let r = c.requires in packed-one c.args.bytes.now r.0 r.1 r.2

pub returns : goal.returns
returns c = λ r k e. only-record c.args.bytes.now r k e
