use Rattle.std.proofs.Common.{◌≤◌, length, drop}
use Rattle.cp_disk.specs.Edits.{calls_of, HasNoSync}
use Rattle.cp_disk.proofs.replay.synced_count.Given as goal

abbrev pub decreases-loop-count : goal.decreases-loop-count
decreases-loop-count l = l.count

abbrev pub invariant-loop-count : goal.invariant-loop-count
invariant-loop-count l = record {
  within : l.count ≤ length l.log;
  none : HasNoSync (calls_of (drop l.count l.log));
}
