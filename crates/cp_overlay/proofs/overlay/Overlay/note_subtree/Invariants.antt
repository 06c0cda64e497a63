use Rattle.std.proofs.Common.{◌≡◌, take}
use Rattle.cp_model.specs.Place.{Path}
use Rattle.cp_model.specs.Keyed.{look}
use Rattle.cp_overlay.specs.Seen.{seen}
use Rattle.cp_overlay.specs.Net.{mark_kept, noted}
use Rattle.cp_overlay.proofs.Noting.{any_row}
use Rattle.cp_overlay.proofs.overlay.Overlay.note_subtree.Given as goal

abbrev pub invariant-loop-row : goal.invariant-loop-row
invariant-loop-row g l = (r : Path) → look r l.marks.entries ≡ noted (any_row l.top-inside.labels.items r (take l.row-index l.row-items)) (mark_kept (seen l.self) r) (look r l.fn.marks.entries)
