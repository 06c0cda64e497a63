use Rattle.std.proofs.lemmas.Result.{IfOk-weaker}
use Rattle.cp_db.proofs.WritingStarts.{start-told, start-length, start-fits}
use Rattle.cp_db.proofs.writing.start_bytes.Goals as goal

pub returns : goal.returns
returns g c =
    let tree = g.R.TreeRep.contents c.args.tree.now in
    let literal = c.in_ok-literal.literal in
    let rows = c.in_ok-literal.ensures.literal in
    let same = c.in_ok-literal.ensures.tree in
    let body = c.entry_bytes-body.result in
    record {
      told = IfOk-weaker body _ _ (λ v e. start-told c.args.kind literal tree rows same v.items e.0 (g.met.R.TreeRep.is_tree c.args.tree.now) e.1 e.2) c.entry_bytes-body.ensures;
      size = IfOk-weaker body _ _ (λ v e. start-length c.args.kind literal tree rows same v.items e.0 e.1 e.2) c.entry_bytes-body.ensures;
      few = IfOk-weaker body _ _ (λ v e. start-fits c.args.kind literal tree rows same v.items e.0 e.1 e.2) c.entry_bytes-body.ensures;
    }
