use Rattle.std.proofs.Common.{◌≤◌, length, take}
use Rattle.cp_archive.specs.Phases.{Paths}
use Rattle.cp_archive.specs.Notes.{AreNoted}
use Rattle.cp_archive.proofs.paths.forget_all.Given as goal

-- what was noted of the first differences is still there, and nothing of the others
abbrev pub invariant-loop-count : goal.invariant-loop-count
invariant-loop-count l = record {
  few : l.count ≤ length l.differences;
  noted : (m : Paths) → AreNoted m l.fn.paths l.since l.differences → AreNoted m l.paths l.since (take l.count l.differences);
}

abbrev pub decreases-loop-count : goal.decreases-loop-count
decreases-loop-count l = l.count
