use Rattle.cp_overlay.specs.Seen.{seen}
use Rattle.cp_overlay.proofs.Netting.{net-rows}
use Rattle.cp_overlay.proofs.overlay.Overlay.full.Goals as goal

pub returns : goal.returns
returns g c = λ w ok st e s.
    net-rows (seen c.args.self.now) (g.A.TreeRep.contents c.args.before.now) (g.B.TreeRep.contents c.args.after.now) w c.new-marks.result.entries c.note_changes.new.marks.entries c.note_losses.new.marks.entries ok st e
    (g.met.A.TreeRep.is_tree c.args.before.now) c.new-marks.ensures.empty c.in_ok-note_changes.ensures c.in_ok-note_losses.ensures s
