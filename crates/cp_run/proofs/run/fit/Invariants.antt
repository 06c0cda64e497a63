use Rattle.std.proofs.Common.{take}
use Rattle.cp_run.specs.Sets.{Fit}
use Rattle.cp_run.proofs.run.fit.Given as goal

abbrev pub invariant-loop-run : goal.invariant-loop-run
invariant-loop-run l = Fit (take l.run-index l.runs)
