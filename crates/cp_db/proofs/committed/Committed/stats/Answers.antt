use Rattle.std.proofs.Common.{refl}
use Rattle.cp_db.proofs.Taking.{stats-kept}
use Rattle.cp_db.proofs.committed.Committed.stats.Goals as goal

pub returns : goal.returns
returns g c = λ s z has. stats-kept g.R.TreeRep.contents g.S.TreeRep.contents c.args.self.now s z has _ c.kind.ensures c.upto.ensures refl c.len.ensures c.count.ensures c.len-2.ensures
