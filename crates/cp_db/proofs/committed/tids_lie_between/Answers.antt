use Rattle.std.proofs.Common.{refl}
use Rattle.cp_db.proofs.TakingLists.{tids-begun, tids-ended, tids-first, tids-next}
use Rattle.cp_db.proofs.committed.tids_lie_between.Goals as goal

pub loop-record-init : goal.loop-record-init
loop-record-init c = tids-begun c.args.low c.args.high c.args.records.now c.iter-rest.result c.iter-rest.ensures

pub returns-in_default : goal.returns-in_default
returns-in_default c = (λ t. tids-ended c.args.low c.args.high c.args.records.now c.loop-record.rest c.loop-record.invariant c.in_default.ensures, λ t. refl)
