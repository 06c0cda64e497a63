use Rattle.std.proofs.Common.{◌∙◌, inl, inr, refl, rules, arith}
use Rattle.cp_disk.proofs.Composing.{still, rests_then}
use Rattle.cp_run.proofs.BadPages.{bad_page}
use Rattle.cp_run.proofs.Composing.{look_fails, look_on, looks_with, looks_few, no_looks, kept_same}
use Rattle.cp_run.proofs.Faults.{same_error, uses_error}
use Rattle.cp_run.proofs.Passing.{passed_none, passed_look, passed_page, added_is, rows_page, rows_end, next_later}
use Rattle.cp_run.proofs.between.add_from.Goals as goal

pub loop-number-init : goal.loop-number-init
loop-number-init g c = record {
  order = (omega arith, c.requires.first);
  cache = c.requires.cache;
  looks = no_looks _ _ _ _ _ (λ known all has split. passed_none _ c.args.run.now c.args.range.low.now c.args.range.high.now c.args.first);
  rows = λ known all has. refl;
  pages = λ known all. all;
  rests = search rules;
  same = refl;
  faults = refl;
}

pub returns-in_err-look-clause-looks : goal.returns-in_err-look-clause-looks
returns-in_err-look-clause-looks g c =
    look_fails _ _ _ _ _ _ _ _ _ _ _ _ c.from_residual.result (λ i before known all has split. passed_look _ _ _ _ _ _ _ c.loop-number-test.true (before known all has split)) c.loop-number.invariant.looks c.in_err-look.ensures.looked (search rules)

pub returns-in_err-past-clause-looks : goal.returns-in_err-past-clause-looks
returns-in_err-past-clause-looks g c =
    look_on _ _ _ _ _ _ _ _ _ _ _ _ c.from_residual-in_err-past.result (λ i before known all has split. passed_look _ _ _ _ _ _ _ c.loop-number-test.true (before known all has split)) c.loop-number.invariant.looks c.in_ok-look.ensures.looked

pub loop-number-preserved : goal.loop-number-preserved
loop-number-preserved g c =
    let i = c.loop-number.invariant in
    let t = c.loop-number-test.true in
    let e = c.in_ok-look.ensures in
    record {
      order = next_later _ c.loop-number.number _ _ _ c.next_page-number.ensures t i.order.0;
      cache = e.cache;
      looks = look_on _ _ _ _ _ _ _ _ _ _ _ _ _ (λ k before known all has split.
          let here = kept_same _ _ _ ((e.rests (still i.same known)).content ∙ (i.rests known).content) (e.pages (still i.same known) (i.pages known all)) in
          let added = added_is c.args.range.low.now c.args.range.high.now _ _ _ _ (c.in_ok-past.ensures.rows _ here) in
          passed_page _ c.args.run.now c.args.range.low.now c.args.range.high.now c.args.first c.loop-number.number _ k _ t i.order.0 has split added.1 c.next_page-number.ensures (before known all has split)) i.looks e.looked;
      rows = λ known all has.
          let here = kept_same _ _ _ ((e.rests (still i.same known)).content ∙ (i.rests known).content) (e.pages (still i.same known) (i.pages known all)) in
          let added = added_is c.args.range.low.now c.args.range.high.now _ _ _ _ (c.in_ok-past.ensures.rows _ here) in
          rows_page _ c.args.run.now c.args.range.low.now c.args.range.high.now c.loop-number.number _ _ _ _ _ t has added.0 added.1 c.next_page-number.ensures (i.rows known all has);
      pages = λ known all. e.pages (still i.same known) (i.pages known all);
      rests = λ known. rests_then _ _ _ (i.rests known) (e.rests (still i.same known));
      same = e.cause.same ∙ i.same;
      faults = search rules;
    }

pub returns-clause-looks : goal.returns-clause-looks
returns-clause-looks g c =
    looks_with _ _ _ _ _ _ _ _ (looks_few _ _ _ _ _ _ _ _ (λ k before known all has split. let h = (before known all has split).some in omega (arith, h)) c.loop-number.invariant.looks)

pub returns-clause-rows : goal.returns-clause-rows
returns-clause-rows g c = λ known all has. rows_end _ c.args.run.now c.args.range.low.now c.args.range.high.now c.loop-number.number _ _ c.loop-number-test.false (c.loop-number.invariant.rows known all has)

pub returns-in_err-look-clause-bad : goal.returns-in_err-look-clause-bad
returns-in_err-look-clause-bad g c = λ known all n is.
    let i = c.loop-number.invariant in
    let e = c.in_err-look.ensures.bad (still i.same known) n (same_error c.from_residual.result _ _ c.from_residual.ensures.1 is) in
    bad_page _ _ c.args.run.now c.loop-number.number n _ (i.rests known).content c.loop-number-test.true refl e.0 (inl e.1)

pub returns-in_err-past-clause-bad : goal.returns-in_err-past-clause-bad
returns-in_err-past-clause-bad g c = λ known all n is.
    let i = c.loop-number.invariant in
    let here = c.in_ok-look.ensures.pages (still i.same known) (i.pages known all) in
    let e = c.in_err-past.ensures.bad _ here n (same_error c.from_residual-in_err-past.result _ _ c.from_residual-in_err-past.ensures.1 is) in
    bad_page _ _ c.args.run.now c.loop-number.number n _ ((c.in_ok-look.ensures.rests (still i.same known)).content ∙ (i.rests known).content) c.loop-number-test.true refl e.0 (inr e.1)

pub returns-in_err-look-clause-pages : goal.returns-in_err-look-clause-pages
returns-in_err-look-clause-pages g c = λ known all. c.in_err-look.ensures.pages (still c.loop-number.invariant.same known) (c.loop-number.invariant.pages known all)

pub returns-in_err-past-clause-pages : goal.returns-in_err-past-clause-pages
returns-in_err-past-clause-pages g c = λ known all. c.in_ok-look.ensures.pages (still c.loop-number.invariant.same known) (c.loop-number.invariant.pages known all)

pub returns-in_err-look-clause-rests : goal.returns-in_err-look-clause-rests
returns-in_err-look-clause-rests g c = λ known. rests_then _ _ _ (c.loop-number.invariant.rests known) (c.in_err-look.ensures.rests (still c.loop-number.invariant.same known))

pub returns-in_err-past-clause-rests : goal.returns-in_err-past-clause-rests
returns-in_err-past-clause-rests g c = λ known. rests_then _ _ _ (c.loop-number.invariant.rests known) (c.in_ok-look.ensures.rests (still c.loop-number.invariant.same known))

pub returns-in_err-look-clause-cause : goal.returns-in_err-look-clause-cause
returns-in_err-look-clause-cause g c = uses_error c.from_residual.result _ _ _ c.in_err-look.field-0.0 c.loop-number.invariant.same c.loop-number.invariant.faults c.in_err-look.ensures.cause c.from_residual.ensures.1
