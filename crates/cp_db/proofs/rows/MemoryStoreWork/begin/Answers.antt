use Rattle.cp_db.proofs.Walking.{rows-none}
use Rattle.cp_db.proofs.rows.MemoryStoreWork.begin.Goals as goal

pub returns-clause-done : goal.returns-clause-done
returns-clause-done g c = rows-none c.new.result c.args.kind c.args.last (g.R.TreeRep.contents c.args._tree.now) c.new.ensures.list
