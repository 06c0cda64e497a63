use Rattle.cp_overlay.specs.Seen.{seen}
use Rattle.cp_overlay.proofs.Losing.{gone_with, LeftToNote}
use Rattle.cp_overlay.proofs.overlay.Overlay.note_losses.Given as goal

abbrev pub invariant-loop-lost : goal.invariant-loop-lost
invariant-loop-lost g l = LeftToNote (gone_with (seen l.self) (g.A.TreeRep.contents l.before) (g.B.TreeRep.contents l.after)) l.lost-iterator l.self.lost.keys l.fn.marks.entries l.marks.entries
