use Rattle.std.proofs.Common.{◌≡◌}
use Rattle.cp_model.specs.Place.{Path}
use Rattle.cp_model.specs.Keyed.{look}
use Rattle.cp_overlay.specs.Seen.{seen}
use Rattle.cp_overlay.specs.Net.{mark_kept, noted}
use Rattle.cp_overlay.proofs.Noting.{any_top}
use Rattle.cp_overlay.proofs.overlay.Overlay.note_changes.Given as goal

abbrev pub invariant-loop-key : goal.invariant-loop-key
invariant-loop-key g l = (r : Path) → noted (any_top (seen l.self) (g.B.TreeRep.contents l.after) r l.key-iterator) (mark_kept (seen l.self) r) (look r l.marks.entries) ≡ noted (any_top (seen l.self) (g.B.TreeRep.contents l.after) r l.self.origins.entries) (mark_kept (seen l.self) r) (look r l.fn.marks.entries)
