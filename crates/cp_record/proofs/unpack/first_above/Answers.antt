use Rattle.std.proofs.Common.{◌++◌, ◌∷◌, List, [], sym, ap, ◌∙◌, append-nil}
use Rattle.cp_path.specs.Encoding.{path_bytes}
use Rattle.cp_record.specs.Bytes.{letter, source_bytes, record_bytes}
use Rattle.cp_record.proofs.Kept.{parts, has_tid, begins_op, begins_path}
use Rattle.cp_record.proofs.unpack.first_above.Goals as goal

pub tid_at-requires : goal.tid_at-requires
tid_at-requires c = has_tid c.args.bytes.now c.requires

pub op_at-requires : goal.op_at-requires
op_at-requires c = begins_op c.args.bytes.now c.requires c.tid_at.result.0 c.tid_at.result.1.now c.tid_at.ensures

pub labels_above-requires : goal.labels_above-requires
labels_above-requires c = begins_path c.args.bytes.now c.requires c.tid_at.result.0 c.tid_at.result.1.now c.tid_at.ensures c.op_at.result.0 c.op_at.result.1.now c.op_at.ensures

pub returns : goal.returns
returns c = λ r rest k e.
    let tid = c.tid_at.ensures r.tid (letter r.op ∷ (path_bytes r.loc.path ++ (source_bytes r.src ++ rest))) k.tid (parts r rest c.args.bytes.now e) in
    let op = c.op_at.ensures r.op (path_bytes r.loc.path ++ (source_bytes r.src ++ rest)) tid.1 in
    c.labels_above.ensures r.loc.path (source_bytes r.src ++ rest) op.1
