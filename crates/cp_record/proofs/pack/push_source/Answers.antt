use Rattle.cp_record.proofs.Growing.{grew_then}
use Rattle.cp_record.proofs.pack.push_source.Goals as goal

pub returns-in_err-push_counted-clause-err : goal.returns-in_err-push_counted-clause-err
returns-in_err-push_counted-clause-err c = c.push_counted.ensures.err

pub returns-in_err-push_path-clause-err : goal.returns-in_err-push_path-clause-err
returns-in_err-push_path-clause-err c = grew_then _ _ _ _ c.in_ok-push_counted.ensures.ok c.push_path.ensures.err

pub returns-clause-err : goal.returns-clause-err
returns-clause-err c = grew_then _ _ _ _ c.in_ok-push_counted.ensures.ok c.push_path.ensures.err
