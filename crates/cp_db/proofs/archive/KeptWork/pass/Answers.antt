use Rattle.std.specs.Prelude.{length}
use Rattle.cp_db.proofs.Archiving.{versions-stay}
use Rattle.cp_db.proofs.archive.KeptWork.pass.Goals as goal

pub returns-clause-done : goal.returns-clause-done
returns-clause-done c = λ first place items i s found stand leads can is. versions-stay c.args.self.now first items s c.args._passed (place (length items)) i found stand leads is
