use Rattle.std.proofs.Common.{◌++◌, ◌∷◌, sym, subst}
use Rattle.cp_path.specs.Encoding.{path_bytes}
use Rattle.cp_record.specs.Bytes.{letter, source_bytes}
use Rattle.cp_record.specs.Kept.{IsSourceOf}
use Rattle.cp_record.proofs.Kept.{parts, has_tid, begins_op, begins_path, begins_source}
use Rattle.cp_record.proofs.unpack.behind_record.Goals as goal

pub tid_at-requires : goal.tid_at-requires
tid_at-requires c = has_tid c.args.bytes.now c.requires

pub op_at-op-requires : goal.op_at-op-requires
op_at-op-requires c = begins_op c.args.bytes.now c.requires c.tid_at.result.0 c.tid_at.result.1.now c.tid_at.ensures

pub behind_path-requires : goal.behind_path-requires
behind_path-requires c = begins_path c.args.bytes.now c.requires c.tid_at.result.0 c.tid_at.result.1.now c.tid_at.ensures c.op_at-op.result.0 c.op_at-op.result.1.now c.op_at-op.ensures

pub behind_source-requires : goal.behind_source-requires
behind_source-requires c = begins_source c.args.bytes.now c.requires c.tid_at.result.0 c.tid_at.result.1.now c.tid_at.ensures c.op_at-op.result.0 c.op_at-op.result.1.now c.op_at-op.ensures c.behind_path.result.now c.behind_path.ensures

pub returns : goal.returns
returns c =
    λ r rest k e.
    let tid = c.tid_at.ensures r.tid (letter r.op ∷ (path_bytes r.loc.path ++ (source_bytes r.src ++ rest))) k.tid (parts r rest c.args.bytes.now e) in
    let op = c.op_at-op.ensures r.op (path_bytes r.loc.path ++ (source_bytes r.src ++ rest)) tid.1 in
    let path = c.behind_path.ensures r.loc.path (source_bytes r.src ++ rest) op.1 in
    c.behind_source.ensures r.src rest (subst (λ o. IsSourceOf o r.src) (sym op.0) k.source) path
