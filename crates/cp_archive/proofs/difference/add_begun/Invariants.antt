use Rattle.std.proofs.Common.{drop}
use Rattle.cp_archive.proofs.Finding.{begun_with, AreGiven}
use Rattle.cp_archive.proofs.difference.add_begun.Given as goal

abbrev pub invariant-loop-row : goal.invariant-loop-row
invariant-loop-row l = AreGiven (begun_with l.place) l.fn.found.items l.found.items l.before l.left l.after (drop l.row-index l.after)
