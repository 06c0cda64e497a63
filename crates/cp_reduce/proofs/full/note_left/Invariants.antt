use Rattle.std.proofs.Common.{◌≡◌, [], take}
use Rattle.cp_model.specs.Place.{Path}
use Rattle.cp_model.specs.Keyed.{look}
use Rattle.cp_overlay.specs.Net.{noted}
use Rattle.cp_overlay.proofs.Noting.{any_row}
use Rattle.cp_reduce.specs.Told.{RiseByPlace, mark_told}
use Rattle.cp_reduce.proofs.full.note_left.Given as goal

abbrev pub invariant-loop-row : goal.invariant-loop-row
invariant-loop-row g l = RiseByPlace l.rows → (r : Path) → look r l.marks.entries ≡ noted (any_row [] r (take l.row-index l.row-items)) (mark_told l.rows r) (look r l.fn.marks.entries)
