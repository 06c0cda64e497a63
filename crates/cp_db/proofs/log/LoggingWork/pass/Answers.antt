use Rattle.std.specs.Prelude.{length}
use Rattle.cp_db.proofs.Logging.{log-stays}
use Rattle.cp_db.proofs.log.LoggingWork.pass.Goals as goal

pub returns-clause-done : goal.returns-clause-done
returns-clause-done c = λ first place items i s found stand leads can is. log-stays c.args.self.now.lines first items s c.args._passed (place (length items)) i found stand leads is
