use Rattle.std.proofs.Common.{rules}
use Rattle.cp_run.proofs.Across.{between_is}
use Rattle.cp_run.proofs.Composing.{looks_with, looks_failed}
use Rattle.cp_run.proofs.Faults.{same_error}
use Rattle.cp_run.proofs.between.between_of.Goals as goal

pub returns-in_err-add_of-clause-looks : goal.returns-in_err-add_of-clause-looks
returns-in_err-add_of-clause-looks g c = looks_failed _ _ _ _ _ _ _ c.from_residual.result c.in_err-add_of.ensures.looks (search rules)

pub returns-in_err-add_of-clause-bad : goal.returns-in_err-add_of-clause-bad
returns-in_err-add_of-clause-bad g c = λ known all n is. c.in_err-add_of.ensures.bad known all n (same_error c.from_residual.result _ _ c.from_residual.ensures.1 is)

pub returns-clause-looks : goal.returns-clause-looks
returns-clause-looks g c = looks_with _ _ _ _ _ _ _ _ c.in_ok-add_of.ensures.looks

pub returns-clause-rows : goal.returns-clause-rows
returns-clause-rows g c = λ known all are.
    between_is c.args.range.low.now c.args.range.high.now _ _ _ _ _ _ _ c.new-found.ensures.items (c.in_ok-add_of.ensures.rows known all are) c.deref_mut.ensures.value c.deref_mut.ensures.len c.sort.ensures.same c.sort.ensures.sorted
