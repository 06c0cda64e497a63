use Rattle.std.proofs.Common.{◌-◌, ◌/◌, inl, inr, refl, ◌+◌, rules, arith, ◌∙◌, sym}
use Rattle.cp_disk.proofs.Composing.{still, rests_then}
use Rattle.cp_run.proofs.BadPages.{bad_page, no_first_key}
use Rattle.cp_run.proofs.Composing.{search_fails, search_goes_on}
use Rattle.cp_run.proofs.Faults.{same_error, uses_error}
use Rattle.cp_run.proofs.Halving.{halved_few, split_up, split_down}
use Rattle.cp_run.proofs.search.pages_before.Goals as goal

pub returns-in_err-look-clause-looks : goal.returns-in_err-look-clause-looks
returns-in_err-look-clause-looks g c =
    search_fails _ _ _ _ _ _ _ _ _ _ _ _ _ c.from_residual.result c.loop-low.invariant.looks c.loop-low-test.true c.in_err-look.ensures.looked (search rules)

pub returns-in_err-begins_by-clause-looks : goal.returns-in_err-begins_by-clause-looks
returns-in_err-begins_by-clause-looks g c =
    search_fails _ _ _ _ _ _ _ _ _ _ _ _ _ c.from_residual-in_err-begins_by.result c.loop-low.invariant.looks c.loop-low-test.true c.in_ok-look.ensures.looked (search rules)

pub loop-low-preserved-then-branch : goal.loop-low-preserved-then-branch
loop-low-preserved-then-branch g c =
    let i = c.loop-low.invariant in
    let t = c.loop-low-test.true in
    let e = c.in_ok-look.ensures in
    record {
      order = omega (arith, i.order, t);
      cache = e.cache;
      looks = search_goes_on _ _ _ _ _ _ _ _ _ _ _ _ _ _ _ i.looks t e.looked (omega (arith, t));
      split = λ known all.
          let here = e.pages (still i.same known) (i.pages known all) in
          split_up _ _ ((e.rests (still i.same known)).content ∙ (i.rests known).content) _ _ _ _ _ (i.split known all) (sym (c.in_ok-begins_by.ensures.begins _ here) ∙ c.if-branch.true);
      pages = λ known all. e.pages (still i.same known) (i.pages known all);
      rests = λ known. rests_then _ _ _ (i.rests known) (e.rests (still i.same known));
      same = e.cause.same ∙ i.same;
      faults = search rules;
    }

pub loop-low-preserved : goal.loop-low-preserved
loop-low-preserved g c =
    let i = c.loop-low.invariant in
    let t = c.loop-low-test.true in
    let e = c.in_ok-look.ensures in
    record {
      order = omega (arith, i.order, t);
      cache = e.cache;
      looks = search_goes_on _ _ _ _ _ _ _ _ _ _ _ _ _ _ _ i.looks t e.looked (omega (arith, t));
      split = λ known all.
          let here = e.pages (still i.same known) (i.pages known all) in
          split_down _ _ ((e.rests (still i.same known)).content ∙ (i.rests known).content) _ _ _ _ _ (i.split known all) (sym (c.in_ok-begins_by.ensures.begins _ here) ∙ c.if-branch.false);
      pages = λ known all. e.pages (still i.same known) (i.pages known all);
      rests = λ known. rests_then _ _ _ (i.rests known) (e.rests (still i.same known));
      same = e.cause.same ∙ i.same;
      faults = search rules;
    }

pub returns-clause-looks : goal.returns-clause-looks
returns-clause-looks g c =
    let before = c.loop-low.invariant.looks in
    record { pages = before.pages; few = halved_few _ _ _ _ before.few; looked = record { count = before.looked.count; kept_now = before.looked.kept_now } }

pub returns-in_err-look-clause-bad : goal.returns-in_err-look-clause-bad
returns-in_err-look-clause-bad g c = λ known all n is.
    let i = c.loop-low.invariant in
    let t = c.loop-low-test.true in
    let e = c.in_err-look.ensures.bad (still i.same known) n (same_error c.from_residual.result _ _ c.from_residual.ensures.1 is) in
    bad_page _ _ c.args.run.now (c.loop-low.low + (c.loop-low.high - c.loop-low.low) / 2) n _ (i.rests known).content (omega (arith, t, i.order)) refl e.0 (inl e.1)

pub returns-in_err-begins_by-clause-bad : goal.returns-in_err-begins_by-clause-bad
returns-in_err-begins_by-clause-bad g c = λ known all n is.
    let i = c.loop-low.invariant in
    let t = c.loop-low-test.true in
    let here = c.in_ok-look.ensures.pages (still i.same known) (i.pages known all) in
    let e = c.in_err-begins_by.ensures.bad _ here n (same_error c.from_residual-in_err-begins_by.result _ _ c.from_residual-in_err-begins_by.ensures.1 is) in
    bad_page _ _ c.args.run.now (c.loop-low.low + (c.loop-low.high - c.loop-low.low) / 2) n _ ((c.in_ok-look.ensures.rests (still i.same known)).content ∙ (i.rests known).content) (omega (arith, t, i.order)) refl e.0 (inr (no_first_key _ e.1))

pub returns-in_err-look-clause-pages : goal.returns-in_err-look-clause-pages
returns-in_err-look-clause-pages g c = λ known all. c.in_err-look.ensures.pages (still c.loop-low.invariant.same known) (c.loop-low.invariant.pages known all)

pub returns-in_err-begins_by-clause-pages : goal.returns-in_err-begins_by-clause-pages
returns-in_err-begins_by-clause-pages g c = λ known all. c.in_ok-look.ensures.pages (still c.loop-low.invariant.same known) (c.loop-low.invariant.pages known all)

pub returns-in_err-look-clause-rests : goal.returns-in_err-look-clause-rests
returns-in_err-look-clause-rests g c = λ known. rests_then _ _ _ (c.loop-low.invariant.rests known) (c.in_err-look.ensures.rests (still c.loop-low.invariant.same known))

pub returns-in_err-begins_by-clause-rests : goal.returns-in_err-begins_by-clause-rests
returns-in_err-begins_by-clause-rests g c = λ known. rests_then _ _ _ (c.loop-low.invariant.rests known) (c.in_ok-look.ensures.rests (still c.loop-low.invariant.same known))

pub returns-in_err-look-clause-cause : goal.returns-in_err-look-clause-cause
returns-in_err-look-clause-cause g c = uses_error c.from_residual.result _ _ _ c.in_err-look.field-0.0 c.loop-low.invariant.same c.loop-low.invariant.faults c.in_err-look.ensures.cause c.from_residual.ensures.1
