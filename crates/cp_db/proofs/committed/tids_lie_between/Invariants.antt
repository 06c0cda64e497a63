use Rattle.std.specs.Prelude.{length}
use Rattle.cp_db.proofs.TakingLists.{TidsSoFar}
use Rattle.cp_db.proofs.committed.tids_lie_between.Given as goal

abbrev pub invariant-loop-record : goal.invariant-loop-record
invariant-loop-record l = TidsSoFar l.low l.high l.records l.rest

abbrev pub decreases-loop-record : goal.decreases-loop-record
decreases-loop-record l = length l.rest
