use Rattle.std.proofs.Common.{drop}
use Rattle.cp_archive.proofs.Finding.{gone_with, AreGiven}
use Rattle.cp_archive.proofs.difference.add_gone.Given as goal

abbrev pub invariant-loop-row : goal.invariant-loop-row
invariant-loop-row l = AreGiven (gone_with l.place) l.fn.found.items l.found.items l.after l.left l.before (drop l.row-index l.before)
