use Rattle.cp_record.proofs.Growing.{grew_then}
use Rattle.cp_record.proofs.pack.push_path.Goals as goal

pub returns-in_err-push_labels-clause-err : goal.returns-in_err-push_labels-clause-err
returns-in_err-push_labels-clause-err c = grew_then _ _ _ _ c.in_ok-push.ensures.items c.push_labels.ensures.err

pub returns-in_err-push_labels-2-clause-err : goal.returns-in_err-push_labels-2-clause-err
returns-in_err-push_labels-2-clause-err c = grew_then _ _ _ _ c.in_ok-push.ensures.items (grew_then _ _ _ _ c.in_ok-push_labels.ensures.ok c.push_labels-2.ensures.err)

pub returns-clause-err : goal.returns-clause-err
returns-clause-err c = grew_then _ _ _ _ c.in_ok-push.ensures.items (grew_then _ _ _ _ c.in_ok-push_labels.ensures.ok c.push_labels-2.ensures.err)
