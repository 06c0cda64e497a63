use Rattle.cp_operation.proofs.Changed.{on-err}
use Rattle.cp_operation.proofs.change.copy_within.Goals as goal

pub returns-clause-grown : goal.returns-clause-grown
returns-clause-grown g c = on-err _ c.in_ok-push_within.ensures.grown
