use Rattle.std.proofs.Common.{[], ◌∙◌, refl}
use Rattle.cp_model.specs.Keyed.{look}
use Rattle.cp_overlay.proofs.Noting.{row-more, take-all}
use Rattle.cp_reduce.specs.Told.{mark_told}
use Rattle.cp_reduce.proofs.Telling.{all-places}
use Rattle.cp_reduce.proofs.full.note_left.Goals as goal

pub loop-row-init : goal.loop-row-init
loop-row-init g c = λ h r. refl

pub loop-row-preserved : goal.loop-row-preserved
loop-row-preserved g c = λ h r.
    row-more [] r c.deref-row-items.result.now c.loop-row.row-index c.row-item.result (mark_told c.args.rows.now r) (look r c.args.marks.now.entries) (look r c.loop-row.marks.entries) (look r c.note_place.new.marks.entries)
    c.loop-row-test.true c.row-item.is (c.in_ok-note_place.ensures h r) (c.loop-row.invariant h r)

pub returns : goal.returns
returns g c = λ h r.
    all-places (g.B.TreeRep.contents c.args.after.now) c.root-root.result r c.deref-row-items.result.now c.loop-row.row-index (mark_told c.args.rows.now r) (look r c.args.marks.now.entries) (look r c.loop-row.marks.entries)
    (c.deref-row-items.ensures.value ∙ c.places.view_is ∙ c.in_ok-places.ensures) c.root-root.ensures (take-all c.deref-row-items.result.now c.loop-row.row-index c.loop-row-test.false) (c.loop-row.invariant h r)
