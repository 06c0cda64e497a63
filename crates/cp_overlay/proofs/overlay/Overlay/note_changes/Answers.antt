use Rattle.std.proofs.Common.{ap, ◌∙◌, refl}
use Rattle.cp_model.specs.Keyed.{look}
use Rattle.cp_overlay.specs.Net.{mark_kept, noted}
use Rattle.cp_overlay.specs.Seen.{seen}
use Rattle.cp_overlay.proofs.Noting.{any_top, tops-next, tops-end, tops-all}
use Rattle.cp_overlay.proofs.overlay.Overlay.note_changes.Goals as goal

pub loop-key-init : goal.loop-key-init
loop-key-init g c = λ r. ap (λ es. noted (any_top (seen c.args.self.now) (g.B.TreeRep.contents c.args.after.now) r es) (mark_kept (seen c.args.self.now) r) (look r c.args.marks.now.entries)) c.into_iter-key-iterator.ensures.into_iter_gives.0

pub loop-key-preserved : goal.loop-key-preserved
loop-key-preserved g c = λ r.
    let o = seen c.args.self.now in
    let t = g.B.TreeRep.contents c.args.after.now in
    tops-next o t r c.as_slice.result.now c.in-Some.key.now c.in-Some.field-0-1.now c.loop-key.key-iterator c.next.new.self (mark_kept o r) (look r c.loop-key.marks.entries)
    (noted (any_top o t r c.args.self.now.origins.entries) (mark_kept o r) (look r c.args.marks.now.entries)) (look r c.note_key.new.marks.entries)
    c.in-Some.ensures.steps c.as_slice.ensures.value (c.in_ok-note_key.ensures r) (c.loop-key.invariant r)

pub returns : goal.returns
returns g c = λ r.
    let o = seen c.args.self.now in
    let t = g.B.TreeRep.contents c.args.after.now in
    tops-end o t r c.loop-key.key-iterator (mark_kept o r) (look r c.loop-key.marks.entries) (noted (any_top o t r c.args.self.now.origins.entries) (mark_kept o r) (look r c.args.marks.now.entries)) c.in-None.ensures.steps.0 (c.loop-key.invariant r)
    ∙ tops-all c.args.self.now.origins o t r (look r c.args.marks.now.entries) refl
