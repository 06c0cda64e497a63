-- The clauses are the worked examples.
use Rattle.cp_sources.proofs.Worked as worked
use Rattle.cp_sources.proofs.examples.worked_examples.Goals as goal

pub returns : goal.returns
returns c = record { arrays = worked.arrays }
