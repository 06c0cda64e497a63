use Rattle.std.proofs.Common.{refl}
use Rattle.cp_engine.proofs.Going.{going-begun}
use Rattle.cp_engine.proofs.txn.Txn.begin.Goals as goal

pub returns : goal.returns
returns g c = λ ss s.
    going-begun g.R.TreeRep.contents ss _ c.args.kind (g.R.TreeRep.contents c.args.tree.now) c.args.first (g.met.R.TreeRep.is_tree c.args.tree.now) s c.requires.first c.new-2.ensures c.new.ensures c.in_ok-copy-2.ensures refl c.in_ok-copy.ensures c.new-3.ensures
    c.new-4.ensures refl
