use Rattle.std.proofs.Common.{◌-◌, ◌≤◌, length, take}
use Rattle.cp_archive.specs.Notes.{AreNoted}
use Rattle.cp_archive.proofs.paths.note_all.Given as goal

-- the first differences are noted
abbrev pub invariant-loop-count : goal.invariant-loop-count
invariant-loop-count l = record {
  few : l.count ≤ length l.differences;
  noted : AreNoted l.fn.paths l.paths l.since (take l.count l.differences);
}

abbrev pub decreases-loop-count : goal.decreases-loop-count
decreases-loop-count l = length l.differences - l.count
