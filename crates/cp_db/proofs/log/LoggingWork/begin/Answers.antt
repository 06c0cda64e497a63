use Rattle.std.proofs.Common.{◌∙◌}
use Rattle.cp_db.proofs.Logging.{log-begun}
use Rattle.cp_db.proofs.log.LoggingWork.begin.Goals as goal

pub returns-clause-done : goal.returns-clause-done
returns-clause-done g c = λ first place items s is none. c.new.ensures.items ∙ log-begun first items s is.begins none
