use Rattle.std.proofs.Common.{◌++◌, ◌∷◌, ◌+◌, Some, ap, sym, ◌∙◌, drop}
use Rattle.std.specs.Option.{option_map}
use Rattle.cp_path.specs.Encoding.{path_bytes}
use Rattle.cp_record.specs.Bytes.{letter, source_bytes, records_bytes}
use Rattle.cp_record.proofs.Kept.{parts, has_tid, numbered, begins_numbered}
use Rattle.cp_record.proofs.packed.PackedRecords.tid.Goals as goal

pub tid_at-tid-requires : goal.tid_at-tid-requires
tid_at-tid-requires c =
    let n = numbered c.args.self.now c.args.number c.bytes_from.ensures.kept c.requires in
    has_tid c.bytes_from.result.now (begins_numbered c.args.self.now c.bytes_from.result.now c.args.number n c.bytes_from.ensures.bytes)

pub returns : goal.returns
returns c =
    let n = numbered c.args.self.now c.args.number c.bytes_from.ensures.kept c.requires in
    let r = n.is in
    let rest = records_bytes (drop (c.args.number + 1) c.args.self.now) in
    let tid = c.tid_at-tid.ensures r.tid (letter r.op ∷ (path_bytes r.loc.path ++ (source_bytes r.src ++ rest))) n.kept.tid (parts r rest c.bytes_from.result.now (c.bytes_from.ensures.bytes ∙ n.bytes)) in
    ap (option_map (λ r. r.tid)) n.at ∙ ap Some (sym tid.0)
