use Rattle.std.proofs.Common.{◌+◌, Some, ap, sym, ◌∙◌, drop}
use Rattle.cp_record.specs.Bytes.{records_bytes}
use Rattle.cp_record.proofs.Kept.{numbered, begins_numbered}
use Rattle.cp_record.proofs.packed.PackedRecords.record.Goals as goal

pub record_at-requires : goal.record_at-requires
record_at-requires c =
    let n = numbered c.args.self.now c.args.number c.bytes_from.ensures.kept c.requires in
    begins_numbered c.args.self.now c.bytes_from.result.now c.args.number n c.bytes_from.ensures.bytes

pub returns : goal.returns
returns c =
    let n = numbered c.args.self.now c.args.number c.bytes_from.ensures.kept c.requires in
    n.at ∙ ap Some (sym (c.in_ok-record.ensures n.is (records_bytes (drop (c.args.number + 1) c.args.self.now)) n.kept (c.bytes_from.ensures.bytes ∙ n.bytes)).0)
