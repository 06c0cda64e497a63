use Rattle.cp_run.proofs.BadPages.{none_is_bad}
use Rattle.cp_run.proofs.Looking.{keeps_the_last, reads_once}
use Rattle.cp_run.proofs.stated.laws.Goals as goal

pub returns-clause-last : goal.returns-clause-last
returns-clause-last c = keeps_the_last

pub returns-clause-once : goal.returns-clause-once
returns-clause-once c = reads_once

pub returns-clause-bad : goal.returns-clause-bad
returns-clause-bad c = none_is_bad
