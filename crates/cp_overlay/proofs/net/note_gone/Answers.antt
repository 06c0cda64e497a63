use Rattle.std.proofs.Common.{sym, ◌∙◌, refl}
use Rattle.std.specs.declared.option.Option.TheVariants.{Some}
use Rattle.cp_model.specs.declared.record.RowMark.TheVariants.{Gone as D}
use Rattle.cp_model.specs.Place.{child}
use Rattle.cp_model.specs.Keyed.{look}
use Rattle.cp_model.specs.Subtrees.{is_there}
use Rattle.cp_overlay.proofs.Noting.{noted-nothing, row-fits, row-noted, row-all, take-all}
use Rattle.cp_overlay.proofs.net.note_gone.Goals as goal

pub returns-then-not-has_child : goal.returns-then-not-has_child
returns-then-not-has_child g c = λ r.
    let q = child c.args.lost.now.parent c.args.lost.now.label in
    noted-nothing (g.A.TreeRep.contents c.args.before.now) q q r (Some D) (look r c.args.marks.now.entries) (g.met.A.TreeRep.is_tree c.args.before.now) (sym {b = is_there (g.A.TreeRep.contents c.args.before.now) q} c.if-not-has_child.ensures) refl

pub loop-row-init : goal.loop-row-init
loop-row-init g c = λ r. refl

pub place_of-requires : goal.place_of-requires
place_of-requires g c =
    row-fits (g.A.TreeRep.contents c.args.before.now) c.in_ok-top.top c.labels.result.now c.deref-row-items.result.now c.loop-row.row-index c.row-item.result (g.met.A.TreeRep.is_tree c.args.before.now)
    (c.deref-row-items.ensures.value ∙ c.rows-2.view_is ∙ c.in_ok-rows.ensures) c.loop-row-test.true c.row-item.is c.labels.ensures.labels

pub loop-row-preserved : goal.loop-row-preserved
loop-row-preserved g c = λ r.
    row-noted c.top.inside.labels.items c.in_ok-top.top c.labels.result.now r c.deref-row-items.result.now c.loop-row.row-index c.row-item.result c.in_ok-place.place (Some D) (look r c.args.marks.now.entries) (look r c.loop-row.marks.entries) (look r c.note.new.marks.entries)
    c.top.view_is c.loop-row-test.true c.row-item.is c.labels.ensures.labels c.in_ok-place.ensures (c.in_ok-note.ensures r) (c.loop-row.invariant r)

pub returns : goal.returns
returns g c = λ r.
    row-all (g.A.TreeRep.contents c.args.before.now) c.top.inside.labels.items c.in_ok-top.top (child c.args.lost.now.parent c.args.lost.now.label) r c.deref-row-items.result.now c.loop-row.row-index (Some D) (look r c.args.marks.now.entries) (look r c.loop-row.marks.entries)
    (c.deref-row-items.ensures.value ∙ c.rows-2.view_is ∙ c.in_ok-rows.ensures) c.top.view_is c.in_ok-top.ensures
    (take-all c.deref-row-items.result.now c.loop-row.row-index c.loop-row-test.false) (c.loop-row.invariant r)
