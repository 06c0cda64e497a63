use Rattle.cp_format.proofs.Growing.{grew_then}
use Rattle.cp_format.proofs.writing.put_labels.Goals as goal

pub returns-in_err-put_counted-clause-err : goal.returns-in_err-put_counted-clause-err
returns-in_err-put_counted-clause-err c = grew_then _ _ _ _ c.loop-label.invariant.bytes c.put_counted.ensures.err
