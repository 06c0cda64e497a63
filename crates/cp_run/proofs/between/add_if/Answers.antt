use Rattle.std.proofs.Common.{refl, rules, arith, ◌≡◌, ◌==◌, true, false}
use Rattle.cp_run.proofs.Across.{range_one, found_none, found_one_of}
use Rattle.cp_run.proofs.BadPages.{bad_of_one}
use Rattle.cp_run.proofs.Composing.{looks_few, no_looks}
use Rattle.cp_run.proofs.Runs.{of_this, of_other}
use Rattle.cp_run.proofs.between.add_if.Goals as goal

pub returns-then-run-order-clause-looks : goal.returns-then-run-order-clause-looks
returns-then-run-order-clause-looks g c = no_looks _ _ _ _ _ (λ known all are n small. omega arith)

pub returns-then-run-order-clause-rows : goal.returns-then-run-order-clause-rows
returns-then-run-order-clause-rows g c = λ known all are.
    let other : (c.args.run.now.order == c.args.order) ≡ false = search rules in
    found_none _ c.args.range.low.now c.args.range.high.now _ _ (of_other c.args.order c.args.run.now other)

pub returns-clause-looks : goal.returns-clause-looks
returns-clause-looks g c =
    let same : (c.args.run.now.order == c.args.order) ≡ true = search rules in
    looks_few _ _ _ _ _ _ _ c.add_between.result (λ i few known all. range_one _ c.args.range.low.now c.args.range.high.now c.args.order c.args.run.now i same (few known all)) c.add_between.ensures.looks

pub returns-clause-rows : goal.returns-clause-rows
returns-clause-rows g c = λ known all are.
    let same : (c.args.run.now.order == c.args.order) ≡ true = search rules in
    found_one_of _ c.args.range.low.now c.args.range.high.now _ _ _ _ c.add_between.result (of_this c.args.order c.args.run.now same) (c.add_between.ensures.rows known all) are

pub returns-clause-bad : goal.returns-clause-bad
returns-clause-bad g c = λ known all n is.
    let same : (c.args.run.now.order == c.args.order) ≡ true = search rules in
    bad_of_one _ _ _ _ n refl (of_this c.args.order c.args.run.now same) (c.add_between.ensures.bad known all n is)
