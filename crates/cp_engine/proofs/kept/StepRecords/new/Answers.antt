use Rattle.cp_engine.proofs.KeptRecords.{none-fit}
use Rattle.cp_engine.proofs.kept.StepRecords.new.Goals as goal

pub returns : goal.returns
returns c = (c.new.ensures, none-fit)
