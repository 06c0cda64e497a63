use Rattle.std.proofs.Common.{◌≡◌, take}
use Rattle.std.specs.declared.option.Option.TheVariants.{Some}
use Rattle.cp_model.specs.declared.record.RowMark.TheVariants.{Gone as D}
use Rattle.cp_model.specs.Place.{Path}
use Rattle.cp_model.specs.Keyed.{look}
use Rattle.cp_overlay.specs.Net.{noted}
use Rattle.cp_reduce.specs.Told.{any_gone}
use Rattle.cp_reduce.proofs.full.note_gone.Given as goal

abbrev pub invariant-loop-row : goal.invariant-loop-row
invariant-loop-row g l = (r : Path) → look r l.marks.entries ≡ noted (any_gone (g.A.TreeRep.contents l.before) r (take l.row-index l.rows)) (Some D) (look r l.fn.marks.entries)
