use Rattle.std.proofs.Common.{rules}
use Rattle.cp_run.proofs.Runs.{fit_more, fit_all, fits_at}
use Rattle.cp_run.proofs.run.fit.Goals as goal

pub loop-run-preserved : goal.loop-run-preserved
loop-run-preserved c = fit_more c.args.runs.now c.loop-run.run-index _ c.loop-run-test.true c.loop-run.invariant (c.fits.ensures.0 (search rules))

pub returns-then-not-fits : goal.returns-then-not-fits
returns-then-not-fits c = (λ is. cc, λ fit. let is = c.fits.ensures.1 (fits_at c.args.runs.now c.loop-run.run-index _ c.loop-run-test.true fit) in search rules)

pub returns : goal.returns
returns c = (λ is. fit_all c.args.runs.now c.loop-run.run-index c.loop-run-test.false c.loop-run.invariant, λ fit. search rules)
