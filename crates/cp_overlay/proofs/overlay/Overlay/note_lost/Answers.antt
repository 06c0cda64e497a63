use Rattle.std.proofs.Common.{refl}
use Rattle.cp_overlay.specs.Seen.{seen}
use Rattle.cp_overlay.proofs.Losing.{gone_child, left-next, left-end, children-all}
use Rattle.cp_overlay.proofs.overlay.Overlay.note_lost.Goals as goal

pub loop-lost-preserved : goal.loop-lost-preserved
loop-lost-preserved g c =
    let lost = gone_child (seen c.args.self.now) (g.A.TreeRep.contents c.args.before.now) (g.B.TreeRep.contents c.args.after.now) in
    left-next lost c.args.self.now.lost.keys c.args.marks.now.entries c.in-Some.lost.now c.loop-lost.lost-iterator c.next.new.self c.loop-lost.marks.entries c.note_lost_child.new.marks.entries
    c.in-Some.ensures.steps c.in_ok-note_lost_child.ensures c.loop-lost.invariant

pub returns : goal.returns
returns g c =
    let a = g.A.TreeRep.contents c.args.before.now in
    let b = g.B.TreeRep.contents c.args.after.now in
    children-all (seen c.args.self.now) c.args.self.now.lost refl a b c.args.marks.now.entries c.loop-lost.marks.entries
    (left-end (gone_child (seen c.args.self.now) a b) c.args.self.now.lost.keys c.args.marks.now.entries c.loop-lost.lost-iterator c.loop-lost.marks.entries c.in-None.ensures.steps.0 c.loop-lost.invariant)
