use Rattle.std.proofs.Common.{refl}
use Rattle.cp_db.proofs.Taking.{keeps-begun}
use Rattle.cp_db.proofs.committed.Committed.start.Goals as goal

pub returns-clause-keeps : goal.returns-clause-keeps
returns-clause-keeps g c =
    keeps-begun g.R.TreeRep.contents g.S.TreeRep.contents c.args.kind _ (g.met.R.TreeRep.is_tree c.args.tree) c.new.ensures c.new-2.ensures.kind c.new-2.ensures.upto refl
