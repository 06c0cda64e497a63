use Rattle.cp_db.proofs.Walking.{opened-taken}
use Rattle.cp_db.proofs.walk.HistoryWalk+R+S+MemoryStore.into_committed.Goals as goal

pub returns-clause-taken : goal.returns-clause-taken
returns-clause-taken g c = λ begun items p. opened-taken g.R.TreeRep.contents g.S.TreeRep.contents begun.first c.args.self items p.reached p.done
