use Rattle.std.proofs.Common.{◌++◌, ◌∷◌, sym, subst}
use Rattle.cp_path.specs.Encoding.{path_bytes}
use Rattle.cp_record.specs.Bytes.{letter, source_bytes}
use Rattle.cp_record.specs.Kept.{IsSourceOf}
use Rattle.cp_record.proofs.Kept.{parts, made, has_tid, begins_op, begins_path, begins_source}
use Rattle.cp_record.proofs.unpack.record_at.Goals as goal

pub tid_at-tid-requires : goal.tid_at-tid-requires
tid_at-tid-requires c = has_tid c.args.bytes.now c.requires

pub op_at-op-requires : goal.op_at-op-requires
op_at-op-requires c = begins_op c.args.bytes.now c.requires c.tid_at-tid.result.0 c.tid_at-tid.result.1.now c.tid_at-tid.ensures

pub path_at-requires : goal.path_at-requires
path_at-requires c = begins_path c.args.bytes.now c.requires c.tid_at-tid.result.0 c.tid_at-tid.result.1.now c.tid_at-tid.ensures c.op_at-op.result.0 c.op_at-op.result.1.now c.op_at-op.ensures

pub source_at-requires : goal.source_at-requires
source_at-requires c = begins_source c.args.bytes.now c.requires c.tid_at-tid.result.0 c.tid_at-tid.result.1.now c.tid_at-tid.ensures c.op_at-op.result.0 c.op_at-op.result.1.now c.op_at-op.ensures c.in_ok-path.rest.now (λ p rest e. (c.in_ok-path.ensures p rest e).1)

pub returns : goal.returns
returns c =
    λ r rest k e.
    let tid = c.tid_at-tid.ensures r.tid (letter r.op ∷ (path_bytes r.loc.path ++ (source_bytes r.src ++ rest))) k.tid (parts r rest c.args.bytes.now e) in
    let op = c.op_at-op.ensures r.op (path_bytes r.loc.path ++ (source_bytes r.src ++ rest)) tid.1 in
    let path = c.in_ok-path.ensures r.loc.path (source_bytes r.src ++ rest) op.1 in
    let source = c.in_ok-src.ensures r.src rest (subst (λ o. IsSourceOf o r.src) (sym op.0) k.source) path.1 in
    (made r c.tid_at-tid.result.0 c.op_at-op.result.0 c.in_ok-db.db c.in_ok-path.path c.in_ok-src.src k tid.0 op.0 c.in_ok-db.ensures path.0 source.0, source.1)
