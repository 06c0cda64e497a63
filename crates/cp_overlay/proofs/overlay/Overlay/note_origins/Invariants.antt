use Rattle.cp_overlay.proofs.Gathered.{Rises}
use Rattle.cp_overlay.proofs.OriginRows.{TopsLeft}
use Rattle.cp_overlay.proofs.overlay.Overlay.note_origins.Given as goal

abbrev pub invariant-loop-key : goal.invariant-loop-key
invariant-loop-key l = record {
  left : TopsLeft l.key-iterator l.self.origins.entries l.fn.marks.entries l.marks.entries;
  rises : Rises l.key-iterator;
}
