use Rattle.std.proofs.Common.{◌∙◌, append-nil, arith, refl, sym, rules}
use Rattle.cp_disk.proofs.Composing.{still, rests_then}
use Rattle.cp_run.proofs.Across.{range_next, range_last, range_end, found_next, found_end}
use Rattle.cp_run.proofs.BadPages.{bad_more}
use Rattle.cp_run.proofs.Composing.{looks_then, looks_with, looks_failed, looks_few, no_looks}
use Rattle.cp_run.proofs.Faults.{same_error, uses_error}
use Rattle.cp_run.proofs.Runs.{parts_of, fits_at}
use Rattle.cp_run.proofs.between.add_of.Goals as goal

pub loop-run-init : goal.loop-run-init
loop-run-init g c = record {
  cache = c.requires.cache;
  looks = no_looks _ _ _ _ _ (λ known all are n small. omega arith);
  rows = λ known all are. sym (append-nil _);
  pages = λ known all. all;
  rests = search rules;
  same = refl;
  faults = refl;
}

pub add_if-requires-clause-fits : goal.add_if-requires-clause-fits
add_if-requires-clause-fits g c = fits_at _ _ _ c.loop-run-test.true c.requires.fits

pub returns-in_err-add_if-clause-looks : goal.returns-in_err-add_if-clause-looks
returns-in_err-add_if-clause-looks g c =
    let i = c.loop-run.invariant in
    looks_failed _ _ _ _ _ _ _ c.from_residual.result
    (looks_then _ _ _ _ _ _ _ _ _ _ _ _ (λ a b one two known all.
    range_last _ c.args.range.low.now c.args.range.high.now _ (i.rests known).content c.args.order c.args.runs.now c.loop-run.run-index _ c.loop-run-test.true a b (one known all) (two (still i.same known) (i.pages known all))) i.looks c.in_err-add_if.ensures.looks) (search rules)

pub loop-run-preserved : goal.loop-run-preserved
loop-run-preserved g c =
    let i = c.loop-run.invariant in
    let e = c.in_ok-add_if.ensures in
    record {
      cache = e.cache;
      looks = looks_with _ _ _ _ _ _ _ _ (looks_then _ _ _ _ _ _ _ _ _ _ _ _ (λ a b one two known all.
          range_next _ c.args.range.low.now c.args.range.high.now _ (i.rests known).content c.args.order c.args.runs.now c.loop-run.run-index _ c.loop-run-test.true a b (one known all) (two (still i.same known) (i.pages known all))) i.looks e.looks);
      rows = λ known all.
          found_next _ c.args.range.low.now c.args.range.high.now _ (i.rests known).content c.args.order c.args.runs.now c.loop-run.run-index _ c.loop-run-test.true _ _ _ (i.rows known all) (e.rows (still i.same known) (i.pages known all));
      pages = λ known all. e.pages (still i.same known) (i.pages known all);
      rests = λ known. rests_then _ _ _ (i.rests known) (e.rests (still i.same known));
      same = e.cause.same ∙ i.same;
      faults = search rules;
    }

pub returns-in_err-add_if-clause-bad : goal.returns-in_err-add_if-clause-bad
returns-in_err-add_if-clause-bad g c = λ known all n is.
    let i = c.loop-run.invariant in
    let bad = c.in_err-add_if.ensures.bad (still i.same known) (i.pages known all) n (same_error c.from_residual.result _ _ c.from_residual.ensures.1 is) in
    bad_more _ _ _ _ _ _ n (i.rests known).content (parts_of c.args.order c.args.runs.now c.loop-run.run-index _ c.loop-run-test.true) bad

pub returns-in_err-add_if-clause-pages : goal.returns-in_err-add_if-clause-pages
returns-in_err-add_if-clause-pages g c = λ known all. c.in_err-add_if.ensures.pages (still c.loop-run.invariant.same known) (c.loop-run.invariant.pages known all)

pub returns-in_err-add_if-clause-rests : goal.returns-in_err-add_if-clause-rests
returns-in_err-add_if-clause-rests g c = λ known. rests_then _ _ _ (c.loop-run.invariant.rests known) (c.in_err-add_if.ensures.rests (still c.loop-run.invariant.same known))

pub returns-in_err-add_if-clause-cause : goal.returns-in_err-add_if-clause-cause
returns-in_err-add_if-clause-cause g c = uses_error c.from_residual.result _ _ _ c.in_err-add_if.field-0.0 c.loop-run.invariant.same c.loop-run.invariant.faults c.in_err-add_if.ensures.cause c.from_residual.ensures.1

pub returns-clause-looks : goal.returns-clause-looks
returns-clause-looks g c =
    looks_with _ _ _ _ _ _ _ _ (looks_few _ _ _ _ _ _ _ _ (λ k few known all. range_end _ _ _ c.args.order c.args.runs.now c.loop-run.run-index k c.loop-run-test.false (few known all)) c.loop-run.invariant.looks)

pub returns-clause-rows : goal.returns-clause-rows
returns-clause-rows g c = λ known all. found_end _ c.args.range.low.now c.args.range.high.now c.args.order c.args.runs.now c.loop-run.run-index _ _ c.loop-run-test.false (c.loop-run.invariant.rows known all)
