use Rattle.std.proofs.Common.{sym, ◌∙◌}
use Rattle.cp_model.specs.Keyed.{look}
use Rattle.cp_reduce.proofs.Telling.{noted-told, noted-untold}
use Rattle.cp_reduce.proofs.full.note_place.Goals as goal

pub returns-in_ok-note : goal.returns-in_ok-note
returns-in_ok-note c = λ h r.
    noted-told c.args.rows.now c.args.place.now c.in_ok-clone.field-0 r c.in-Some.mark (look r c.args.marks.now.entries) (look r c.note.new.marks.entries)
    c.in_ok-clone.ensures.cases (sym c.in-Some.is ∙ c.in_ok-mark.ensures h) (c.in_ok-note.ensures r)

pub returns-in_default : goal.returns-in_default
returns-in_default c = λ h r. noted-untold c.args.rows.now c.args.place.now r (look r c.args.marks.now.entries) (sym c.in_default.is ∙ c.in_ok-mark.ensures h)
