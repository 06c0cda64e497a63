use Rattle.cp_overlay.specs.Seen.{seen}
use Rattle.cp_overlay.proofs.Losing.{gone_child, LeftToNote}
use Rattle.cp_overlay.proofs.overlay.Overlay.note_lost.Given as goal

abbrev pub invariant-loop-lost : goal.invariant-loop-lost
invariant-loop-lost g l = LeftToNote (gone_child (seen l.self) (g.A.TreeRep.contents l.before) (g.B.TreeRep.contents l.after)) l.lost-iterator l.self.lost.keys l.fn.marks.entries l.marks.entries
