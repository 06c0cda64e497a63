use Rattle.cp_page.proofs.Growing.{grew_then}
use Rattle.cp_page.proofs.place_key.put_labels.Goals as goal

pub returns-in_err-put_label-clause-err : goal.returns-in_err-put_label-clause-err
returns-in_err-put_label-clause-err c = grew_then _ _ _ _ c.loop-label.invariant.bytes c.put_label.ensures.err
