use Rattle.cp_overlay.specs.Seen.{seen}
use Rattle.cp_overlay.proofs.ReducedRows.{net-reduced_rows}
use Rattle.cp_overlay.proofs.overlay.Overlay.reduced.Goals as goal

pub returns : goal.returns
returns g c = λ w ok st e s.
    net-reduced_rows (seen c.args.self.now) (g.A.TreeRep.contents c.args.before.now) (g.B.TreeRep.contents c.args.after.now) w c.new-marks.result.entries c.note_origins.new.marks.entries c.note_lost.new.marks.entries ok st e
    c.args.self.now.sparse (g.met.B.TreeRep.is_tree c.args.after.now) c.new-marks.ensures.empty c.in_ok-note_origins.ensures c.in_ok-note_lost.ensures s
