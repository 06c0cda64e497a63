use Rattle.cp_overlay.proofs.Marking.{look-inserted}
use Rattle.cp_reduce.proofs.marks.note.Goals as goal

pub returns : goal.returns
returns c = λ r. look-inserted r c.args.place c.args.mark c.args.marks.now.entries c.insert.new.self.entries (c.in_ok-insert.ensures.updates.0 r)
