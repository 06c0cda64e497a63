use Rattle.std.proofs.Common.{refl, rules, ◌≡◌, ◌==◌, true, false}
use Rattle.cp_run.proofs.BadPages.{bad_of_one}
use Rattle.cp_run.proofs.Composing.{looks_few, no_looks}
use Rattle.cp_run.proofs.Runs.{of_this, of_other, within_one, within_none, none_greatest, one_greatest_of}
use Rattle.cp_run.proofs.greatest.greatest_if.Goals as goal

pub returns-then-run-order-clause-looks : goal.returns-then-run-order-clause-looks
returns-then-run-order-clause-looks g c = no_looks _ _ _ _ _ (within_none _)

pub returns-then-run-order-clause-row : goal.returns-then-run-order-clause-row
returns-then-run-order-clause-row g c = λ known all are.
    let other : (c.args.run.now.order == c.args.order) ≡ false = search rules in
    none_greatest _ _ _ (of_other c.args.order c.args.run.now other)

pub returns-clause-looks : goal.returns-clause-looks
returns-clause-looks g c =
    let same : (c.args.run.now.order == c.args.order) ≡ true = search rules in
    looks_few _ _ _ _ _ _ _ c.greatest_in.result (λ i. within_one c.args.order c.args.run.now i same) c.greatest_in.ensures.looks

pub returns-clause-row : goal.returns-clause-row
returns-clause-row g c = λ known all are.
    let same : (c.args.run.now.order == c.args.order) ≡ true = search rules in
    one_greatest_of _ c.args.key.now _ _ c.greatest_in.result (of_this c.args.order c.args.run.now same) (c.greatest_in.ensures.row known all) are

pub returns-clause-bad : goal.returns-clause-bad
returns-clause-bad g c = λ known all n is.
    let same : (c.args.run.now.order == c.args.order) ≡ true = search rules in
    bad_of_one _ _ _ _ n refl (of_this c.args.order c.args.run.now same) (c.greatest_in.ensures.bad known all n is)
