use Rattle.std.proofs.Common.{sym, ◌∙◌, refl}
use Rattle.std.specs.declared.option.Option.TheVariants.{Some}
use Rattle.cp_model.specs.declared.record.RowMark.TheVariants.{Gone as D}
use Rattle.cp_model.specs.Keyed.{look}
use Rattle.cp_overlay.proofs.Noting.{noted-nothing, row-fits, row-noted, row-all, take-all}
use Rattle.cp_reduce.proofs.full.note_below.Goals as goal

pub returns-then-not-is_there : goal.returns-then-not-is_there
returns-then-not-is_there g c = λ r.
    noted-nothing (g.A.TreeRep.contents c.args.before.now) c.args.top.now c.args.top.now r (Some D) (look r c.args.marks.now.entries) (g.met.A.TreeRep.is_tree c.args.before.now) (sym c.if-not-is_there.ensures) refl

pub place_of-requires : goal.place_of-requires
place_of-requires g c =
    row-fits (g.A.TreeRep.contents c.args.before.now) c.args.top.now c.labels.result.now c.deref-row-items.result.now c.loop-row.row-index c.row-item.result (g.met.A.TreeRep.is_tree c.args.before.now)
    (c.deref-row-items.ensures.value ∙ c.rows-2.view_is ∙ c.in_ok-rows.ensures) c.loop-row-test.true c.row-item.is c.labels.ensures.labels

pub loop-row-preserved : goal.loop-row-preserved
loop-row-preserved g c = λ r.
    row-noted c.args.top.now c.args.top.now c.labels.result.now r c.deref-row-items.result.now c.loop-row.row-index c.row-item.result c.in_ok-place.place (Some D) (look r c.args.marks.now.entries) (look r c.loop-row.marks.entries) (look r c.note.new.marks.entries)
    refl c.loop-row-test.true c.row-item.is c.labels.ensures.labels c.in_ok-place.ensures (c.in_ok-note.ensures r) (c.loop-row.invariant r)

pub returns : goal.returns
returns g c = λ r.
    row-all (g.A.TreeRep.contents c.args.before.now) c.args.top.now c.args.top.now c.args.top.now r c.deref-row-items.result.now c.loop-row.row-index (Some D) (look r c.args.marks.now.entries) (look r c.loop-row.marks.entries)
    (c.deref-row-items.ensures.value ∙ c.rows-2.view_is ∙ c.in_ok-rows.ensures) refl refl
    (take-all c.deref-row-items.result.now c.loop-row.row-index c.loop-row-test.false) (c.loop-row.invariant r)
