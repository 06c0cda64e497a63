use Rattle.std.proofs.Common.{refl}
use Rattle.cp_model.specs.History.{start_state}
use Rattle.cp_db.proofs.Walking.{begun-first, reached-first}
use Rattle.cp_db.proofs.walk.HistoryWalk.begin.Goals as goal

pub returns-clause-reached : goal.returns-clause-reached
returns-clause-reached g c = λ i is.
    reached-first g.R.TreeRep.contents g.S.TreeRep.contents g.W.Work.fits _ i is (g.met.R.TreeRep.is_tree c.args.start.tree) c.new.ensures refl refl c.in_ok-work.ensures.fits

pub returns-clause-done : goal.returns-clause-done
returns-clause-done g c = λ place i is.
    let t = g.R.TreeRep.contents c.args.start.tree in
    c.in_ok-work.ensures.done _ place _ (start_state c.args.start.kind t) (begun-first i c.args.start.kind t is)
