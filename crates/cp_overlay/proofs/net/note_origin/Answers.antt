use Rattle.std.proofs.Common.{◌≤◌, length, subst}
use Rattle.std.proofs.lemmas.Result.{on_ok_weaker}
use Rattle.std.specs.declared.option.Option.TheVariants.{Some}
use Rattle.cp_path.specs.declared.limits.TheConstants.{LABELS_MAX}
use Rattle.cp_model.specs.Keyed.{look}
use Rattle.cp_model.specs.Rows.{effect, reduced_mark}
use Rattle.cp_overlay.proofs.Noting.{none-path, some-path}
use Rattle.cp_overlay.proofs.OriginRows.{noted-long, noted-top}
use Rattle.cp_overlay.proofs.net.note_origin.Goals as goal

pub returns-in_default : goal.returns-in_default
returns-in_default c = λ r.
    noted-long c.args.key.now r (Some (reduced_mark (effect c.args.key.now c.args.origin.now))) (look r c.args.marks.now.entries) (none-path c.in_ok-place.field-0 _ c.in_ok-place.ensures.none c.in_default.is)

pub returns : goal.returns
returns c =
    on_ok_weaker c.note.result (λ h r.
    noted-top c.args.key.now c.in-Some.place r c.in_ok-mark.mark (reduced_mark (effect c.args.key.now c.args.origin.now)) (look r c.args.marks.now.entries) (look r c.note.new.marks.entries)
    (subst (λ p. length p ≤ LABELS_MAX) c.place.view_is c.place.invariant) (some-path c.in_ok-place.field-0 c.in-Some.place c.args.key.now c.in_ok-place.ensures.some c.in-Some.is) c.in_ok-mark.ensures (h r)) c.note.ensures
