use Rattle.cp_operation.specs.Loaded.{sources_in}
use Rattle.cp_operation.proofs.OpRows.{accepted-room}
use Rattle.cp_operation.proofs.change.record_top.Goals as goal

pub push_top-requires : goal.push_top-requires
push_top-requires g c =
    let ss = sources_in g.S.TreeRep.contents c.args.sources.now in
    let t = g.R.TreeRep.contents c.args.tree.now in
    record { room = accepted-room ss t c.args.op.now (g.met.R.TreeRep.is_tree c.args.tree.now) c.requires.accepted }
