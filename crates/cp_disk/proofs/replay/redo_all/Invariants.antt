use Rattle.std.proofs.Common.{◌≡◌, take}
use Rattle.cp_disk.specs.Edits.{calls_of, bytes_after_all}
use Rattle.cp_disk.proofs.replay.redo_all.Given as goal

-- the edits that were passed are carried out
abbrev pub invariant-loop-entry : goal.invariant-loop-entry
invariant-loop-entry l = l.file.items ≡ bytes_after_all l.fill l.initial.file.items (calls_of (take l.entry-index l.log))
