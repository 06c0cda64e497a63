use Rattle.std.specs.Prelude.{length}
use Rattle.cp_db.proofs.Walking.{no-record, rows-stay}
use Rattle.cp_db.proofs.rows.MemoryStoreWork.pass.Goals as goal

pub returns-clause-done : goal.returns-clause-done
returns-clause-done c = λ first place items i s found stand leads can is. rows-stay c.args.self.now.rows.list items i found (no-record c.args._passed (place (length items)) i is)
