use Rattle.cp_record.proofs.Growing.{grew_by, grew_then}
use Rattle.cp_record.proofs.pack.push_labels.Goals as goal

pub returns-in_err-push_counted-clause-err : goal.returns-in_err-push_counted-clause-err
returns-in_err-push_counted-clause-err c = grew_then _ _ _ _ c.loop-label.invariant.bytes c.push_counted.ensures.err

pub returns-clause-err : goal.returns-clause-err
returns-clause-err c = grew_by _ _ _ c.loop-label.invariant.bytes
