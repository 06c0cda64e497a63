use Rattle.cp_overlay.proofs.LostLemmas.{lost_more}
use Rattle.cp_overlay.proofs.lost.keep.Goals as goal

pub returns-clause-ok : goal.returns-clause-ok
returns-clause-ok c = lost_more c.args.set.now c.insert.new.self c.args.child c.in_ok-insert.ensures.updates.0
