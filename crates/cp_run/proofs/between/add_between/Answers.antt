use Rattle.std.proofs.Common.{rules, arith}
use Rattle.cp_disk.proofs.Composing.{still, rests_then}
use Rattle.cp_run.proofs.BadPages.{bad_same}
use Rattle.cp_run.proofs.Composing.{looks_then, looks_few, looks_failed, on_unit}
use Rattle.cp_run.proofs.Faults.{same_error}
use Rattle.cp_run.proofs.Passing.{searched_and_passed, searched_rows}
use Rattle.cp_run.proofs.between.add_between.Goals as goal

pub returns-in_err-count-clause-looks : goal.returns-in_err-count-clause-looks
returns-in_err-count-clause-looks g c =
    looks_failed _ _ _ _ _ _ _ c.from_residual.result (looks_few _ _ _ _ _ _ _ _ (λ i few known all has n small. let f = few n small in omega (arith, f)) c.in_err-count.ensures.looks) (search rules)

pub returns-clause-looks : goal.returns-clause-looks
returns-clause-looks g c =
    let e = c.in_ok-count.ensures in
    looks_then _ _ _ _ _ _ _ _ _ _ _ c.add_from.result (λ i j one two known all has.
    searched_and_passed _ c.args.run.now c.args.range.low.now c.args.range.high.now _ c.in_ok-count.count _ i j (e.rests known).content e.within c.saturating_sub-first.ensures has (e.split known all) one (two (still e.cause.same known) (e.pages known all))) e.looks c.add_from.ensures.looks

pub returns-clause-rows : goal.returns-clause-rows
returns-clause-rows g c = λ known all has.
    let e = c.in_ok-count.ensures in
    on_unit c.add_from.result _ _ _ (λ two. searched_rows _ c.args.run.now c.args.range.low.now c.args.range.high.now _ c.in_ok-count.count _ _ _ (e.rests known).content e.within c.saturating_sub-first.ensures has (e.split known all) two)
    (λ there. c.add_from.ensures.rows (still e.cause.same known) (e.pages known all) there)

pub returns-clause-bad : goal.returns-clause-bad
returns-clause-bad g c = λ known all n is.
    let e = c.in_ok-count.ensures in
    bad_same _ _ c.args.run.now n (e.rests known).content (c.add_from.ensures.bad (still e.cause.same known) (e.pages known all) n is)

pub returns-in_err-count-clause-bad : goal.returns-in_err-count-clause-bad
returns-in_err-count-clause-bad g c = λ known all n is. c.in_err-count.ensures.bad known all n (same_error c.from_residual.result _ _ c.from_residual.ensures.1 is)

pub returns-clause-pages : goal.returns-clause-pages
returns-clause-pages g c = λ known all. c.add_from.ensures.pages (still c.in_ok-count.ensures.cause.same known) (c.in_ok-count.ensures.pages known all)

pub returns-clause-rests : goal.returns-clause-rests
returns-clause-rests g c = λ known. rests_then _ _ _ (c.in_ok-count.ensures.rests known) (c.add_from.ensures.rests (still c.in_ok-count.ensures.cause.same known))
