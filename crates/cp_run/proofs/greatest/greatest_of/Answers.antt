use Rattle.std.proofs.Common.{rules, ◌∙◌}
use Rattle.cp_disk.proofs.Composing.{still, rests_then}
use Rattle.cp_run.proofs.BadPages.{bad_more}
use Rattle.cp_run.proofs.Composing.{looks_then, looks_with, looks_failed}
use Rattle.cp_run.proofs.Faults.{same_error, uses_error}
use Rattle.cp_run.proofs.Runs.{with_next, with_last, row_next, row_end, looks_end, parts_of, fits_at}
use Rattle.cp_run.proofs.greatest.greatest_of.Goals as goal

pub greatest_if-requires-clause-fits : goal.greatest_if-requires-clause-fits
greatest_if-requires-clause-fits g c = fits_at _ _ _ c.loop-run-test.true c.requires.fits

pub returns-in_err-found-clause-looks : goal.returns-in_err-found-clause-looks
returns-in_err-found-clause-looks g c =
    looks_failed _ _ _ _ _ _ _ c.from_residual.result
    (looks_then _ _ _ _ _ _ _ _ _ _ _ _ (with_last c.args.order c.args.runs.now c.loop-run.run-index _ c.loop-run-test.true) c.loop-run.invariant.looks c.in_err-found.ensures.looks) (search rules)

pub loop-run-preserved : goal.loop-run-preserved
loop-run-preserved g c =
    let i = c.loop-run.invariant in
    let e = c.in_ok-found.ensures in
    record {
      cache = e.cache;
      looks = looks_with _ _ _ _ _ _ _ _ (looks_then _ _ _ _ _ _ _ _ _ _ _ _ (with_next c.args.order c.args.runs.now c.loop-run.run-index _ c.loop-run-test.true) i.looks e.looks);
      row = λ known all.
          row_next _ _ c.args.key.now c.args.order c.args.runs.now c.loop-run.run-index _ _ _ _ (i.rests known).content c.loop-run-test.true (i.row known all) (e.row (still i.same known) (i.pages known all)) c.later-best.ensures;
      pages = λ known all. e.pages (still i.same known) (i.pages known all);
      rests = λ known. rests_then _ _ _ (i.rests known) (e.rests (still i.same known));
      same = e.cause.same ∙ i.same;
      faults = search rules;
    }

pub returns-in_err-found-clause-bad : goal.returns-in_err-found-clause-bad
returns-in_err-found-clause-bad g c = λ known all n is.
    let i = c.loop-run.invariant in
    let bad = c.in_err-found.ensures.bad (still i.same known) (i.pages known all) n (same_error c.from_residual.result _ _ c.from_residual.ensures.1 is) in
    bad_more _ _ _ _ _ _ n (i.rests known).content (parts_of c.args.order c.args.runs.now c.loop-run.run-index _ c.loop-run-test.true) bad

pub returns-in_err-found-clause-pages : goal.returns-in_err-found-clause-pages
returns-in_err-found-clause-pages g c = λ known all. c.in_err-found.ensures.pages (still c.loop-run.invariant.same known) (c.loop-run.invariant.pages known all)

pub returns-in_err-found-clause-rests : goal.returns-in_err-found-clause-rests
returns-in_err-found-clause-rests g c = λ known. rests_then _ _ _ (c.loop-run.invariant.rests known) (c.in_err-found.ensures.rests (still c.loop-run.invariant.same known))

pub returns-in_err-found-clause-cause : goal.returns-in_err-found-clause-cause
returns-in_err-found-clause-cause g c = uses_error c.from_residual.result _ _ _ c.in_err-found.field-0.0 c.loop-run.invariant.same c.loop-run.invariant.faults c.in_err-found.ensures.cause c.from_residual.ensures.1

pub returns-clause-looks : goal.returns-clause-looks
returns-clause-looks g c = looks_end c.args.order c.args.runs.now c.loop-run.run-index _ _ _ _ _ _ _ c.loop-run-test.false c.loop-run.invariant.looks

pub returns-clause-row : goal.returns-clause-row
returns-clause-row g c = λ known all. row_end _ c.args.key.now c.args.order c.args.runs.now c.loop-run.run-index _ c.loop-run-test.false (c.loop-run.invariant.row known all)
