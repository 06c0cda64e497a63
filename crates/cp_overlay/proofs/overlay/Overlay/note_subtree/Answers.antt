use Rattle.std.proofs.Common.{sym, ◌∙◌, refl}
use Rattle.cp_model.specs.Keyed.{look}
use Rattle.cp_overlay.specs.Net.{mark_kept}
use Rattle.cp_overlay.specs.Seen.{seen}
use Rattle.cp_overlay.proofs.Noting.{noted-deep, noted-nothing, none-path, some-path, row-fits, row-noted, row-all, take-all}
use Rattle.cp_overlay.proofs.overlay.Overlay.note_subtree.Goals as goal

pub returns-in_default : goal.returns-in_default
returns-in_default g c = λ r.
    noted-deep (g.B.TreeRep.contents c.args.after.now) c.args.key.now r (mark_kept (seen c.args.self.now) r) (look r c.args.marks.now.entries)
    (g.met.B.TreeRep.is_tree c.args.after.now) (none-path c.in_ok-top.field-0 _ c.in_ok-top.ensures.none c.in_default.is)

pub returns-then-not-is_there : goal.returns-then-not-is_there
returns-then-not-is_there g c = λ r.
    noted-nothing (g.B.TreeRep.contents c.args.after.now) c.args.key.now c.in-Some.top r (mark_kept (seen c.args.self.now) r) (look r c.args.marks.now.entries)
    (g.met.B.TreeRep.is_tree c.args.after.now) (sym c.if-not-is_there.ensures) (some-path c.in_ok-top.field-0 c.in-Some.top c.args.key.now c.in_ok-top.ensures.some c.in-Some.is)

pub loop-row-init : goal.loop-row-init
loop-row-init g c = λ r. refl

pub place_of-requires : goal.place_of-requires
place_of-requires g c =
    row-fits (g.B.TreeRep.contents c.args.after.now) c.in-Some.top c.labels.result.now c.deref-row-items.result.now c.loop-row.row-index c.row-item.result (g.met.B.TreeRep.is_tree c.args.after.now)
    (c.deref-row-items.ensures.value ∙ c.rows-2.view_is ∙ c.in_ok-rows.ensures) c.loop-row-test.true c.row-item.is c.labels.ensures.labels

pub loop-row-preserved : goal.loop-row-preserved
loop-row-preserved g c = λ r.
    row-noted c.top.inside.labels.items c.in-Some.top c.labels.result.now r c.deref-row-items.result.now c.loop-row.row-index c.row-item.result c.in_ok-place.place (mark_kept (seen c.args.self.now) r) (look r c.args.marks.now.entries) (look r c.loop-row.marks.entries) (look r c.note_change.new.marks.entries)
    c.top.view_is c.loop-row-test.true c.row-item.is c.labels.ensures.labels c.in_ok-place.ensures (c.in_ok-note_change.ensures r) (c.loop-row.invariant r)

pub returns : goal.returns
returns g c = λ r.
    row-all (g.B.TreeRep.contents c.args.after.now) c.top.inside.labels.items c.in-Some.top c.args.key.now r c.deref-row-items.result.now c.loop-row.row-index (mark_kept (seen c.args.self.now) r) (look r c.args.marks.now.entries) (look r c.loop-row.marks.entries)
    (c.deref-row-items.ensures.value ∙ c.rows-2.view_is ∙ c.in_ok-rows.ensures) c.top.view_is (some-path c.in_ok-top.field-0 c.in-Some.top c.args.key.now c.in_ok-top.ensures.some c.in-Some.is)
    (take-all c.deref-row-items.result.now c.loop-row.row-index c.loop-row-test.false) (c.loop-row.invariant r)
