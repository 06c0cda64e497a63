use Rattle.std.proofs.Common.{◌++◌, ◌∷◌, [], ap, ◌∙◌}
use Rattle.cp_path.specs.Encoding.{path_bytes}
use Rattle.cp_record.specs.Bytes.{letter, source_bytes}
use Rattle.cp_record.specs.Unpacked.{record_in}
use Rattle.cp_record.proofs.Kept.{parts, has_tid}
use Rattle.cp_record.proofs.Iterating.{one-is, one-begins}
use Rattle.cp_record.proofs.packed_record.PackedRecord.tid.Goals as goal

pub tid_at-tid-requires : goal.tid_at-tid-requires
tid_at-tid-requires c = has_tid c.self.inside.bytes.now (one-begins c.self.inside.bytes.now c.self.invariant)

pub returns : goal.returns
returns c =
    let bytes = c.self.inside.bytes.now in
    let r = (record_in bytes).0 in
    (c.tid_at-tid.ensures r.tid (letter r.op ∷ (path_bytes r.loc.path ++ (source_bytes r.src ++ []))) c.self.invariant.kept.tid (parts r [] bytes (one-is bytes c.self.invariant))).0
    ∙ ap (λ r. r.tid) c.self.view_is
