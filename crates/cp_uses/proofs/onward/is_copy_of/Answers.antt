use Rattle.cp_uses.proofs.Along.{copy-is}
use Rattle.cp_uses.proofs.onward.is_copy_of.Goals as goal

pub returns-in-Some : goal.returns-in-Some
returns-in-Some c = copy-is c.args.row.now c.in-Some.source.now c.args.place.now c.is_at.result c.in-Some.ensures c.is_at.ensures
