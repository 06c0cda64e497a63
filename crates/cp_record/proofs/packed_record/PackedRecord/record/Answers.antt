use Rattle.std.proofs.Common.{[], ◌∙◌}
use Rattle.cp_record.specs.Unpacked.{record_in}
use Rattle.cp_record.proofs.Iterating.{one-is, one-begins}
use Rattle.cp_record.proofs.packed_record.PackedRecord.record.Goals as goal

pub record_at-requires : goal.record_at-requires
record_at-requires c = one-begins c.self.inside.bytes.now c.self.invariant

pub returns : goal.returns
returns c =
    let bytes = c.self.inside.bytes.now in
    (c.in_ok-record.ensures (record_in bytes).0 [] c.self.invariant.kept (one-is bytes c.self.invariant)).0 ∙ c.self.view_is
