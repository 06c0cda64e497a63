use Rattle.std.proofs.Common.{◌+◌, Some, ap, sym, ◌∙◌, drop}
use Rattle.std.specs.Option.{option_map}
use Rattle.cp_model.specs.Records.{mark_by}
use Rattle.cp_record.specs.Bytes.{records_bytes}
use Rattle.cp_record.proofs.Kept.{numbered, begins_numbered}
use Rattle.cp_record.proofs.packed.PackedRecords.mark.Goals as goal

pub mark_at-requires : goal.mark_at-requires
mark_at-requires c =
    let n = numbered c.args.self.now c.args.number c.bytes_from.ensures.kept c.requires in
    begins_numbered c.args.self.now c.bytes_from.result.now c.args.number n c.bytes_from.ensures.bytes

pub returns : goal.returns
returns c =
    let n = numbered c.args.self.now c.args.number c.bytes_from.ensures.kept c.requires in
    ap (option_map (λ r. mark_by r.op r.src)) n.at ∙ ap Some (sym (c.in_ok-mark_at.ensures n.is (records_bytes (drop (c.args.number + 1) c.args.self.now)) n.kept (c.bytes_from.ensures.bytes ∙ n.bytes)))
