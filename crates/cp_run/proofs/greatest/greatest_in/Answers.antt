use Rattle.std.proofs.Common.{◌-◌, inl, inr, refl, rules, arith, ◌∙◌}
use Rattle.cp_disk.proofs.Composing.{still, rests_then}
use Rattle.cp_run.proofs.BadPages.{bad_page}
use Rattle.cp_run.proofs.Composing.{one_look_more, last_look_fails, on_result}
use Rattle.cp_run.proofs.Faults.{same_error, uses_error}
use Rattle.cp_run.proofs.Finding.{none_found, one_found}
use Rattle.cp_run.proofs.greatest.greatest_in.Goals as goal

pub returns-then-count-eq0-clause-row : goal.returns-then-count-eq0-clause-row
returns-then-count-eq0-clause-row g c = λ known all has. none_found _ _ _ has _ c.if-count-eq0.true (c.in_ok-count.ensures.split known all)

pub overflow_mul-at : goal.overflow_mul-at
overflow_mul-at g c = let w = c.in_ok-count.ensures.within in omega (arith, w, c.requires.fits)

pub returns-in_err-look-clause-looks : goal.returns-in_err-look-clause-looks
returns-in_err-look-clause-looks g c =
    last_look_fails _ _ _ _ _ _ _ _ _ _ _ c.from_residual-in_err-look.result c.in_ok-count.ensures.looks c.in_err-look.ensures.looked (search rules)

pub returns-clause-looks : goal.returns-clause-looks
returns-clause-looks g c = one_look_more _ _ _ _ _ _ _ _ _ _ _ c.row_at.result c.in_ok-count.ensures.looks c.in_ok-look.ensures.looked

pub returns-clause-row : goal.returns-clause-row
returns-clause-row g c = λ known all has.
    let e = c.in_ok-count.ensures in
    let here = c.in_ok-look.ensures.pages (still e.cause.same known) (e.pages known all) in
    let same = (c.in_ok-look.ensures.rests (still e.cause.same known)).content ∙ (e.rests known).content in
    on_result c.row_at.result _ _ (c.row_at.ensures.row _ here)
    (λ o found. one_found _ _ _ has _ _ _ same e.within (let no = c.if-count-eq0.false in omega (arith, no)) (e.split known all) found)

pub returns-in_err-count-clause-bad : goal.returns-in_err-count-clause-bad
returns-in_err-count-clause-bad g c = λ known all n is. c.in_err-count.ensures.bad known all n (same_error c.from_residual.result _ _ c.from_residual.ensures.1 is)

pub returns-in_err-look-clause-bad : goal.returns-in_err-look-clause-bad
returns-in_err-look-clause-bad g c = λ known all n is.
    let e = c.in_ok-count.ensures in
    let w = e.within in
    let some = c.if-count-eq0.false in
    let bad = c.in_err-look.ensures.bad (still e.cause.same known) n (same_error c.from_residual-in_err-look.result _ _ c.from_residual-in_err-look.ensures.1 is) in
    bad_page _ _ c.args.run.now (c.in_ok-count.count - 1) n _ (e.rests known).content (omega (arith, w, some)) refl bad.0 (inl bad.1)

pub returns-clause-bad : goal.returns-clause-bad
returns-clause-bad g c = λ known all n is.
    let e = c.in_ok-count.ensures in
    let w = e.within in
    let some = c.if-count-eq0.false in
    let here = c.in_ok-look.ensures.pages (still e.cause.same known) (e.pages known all) in
    let bad = c.row_at.ensures.bad _ here n is in
    bad_page _ _ c.args.run.now (c.in_ok-count.count - 1) n _ ((c.in_ok-look.ensures.rests (still e.cause.same known)).content ∙ (e.rests known).content) (omega (arith, w, some)) refl bad.0 (inr bad.1)

pub returns-in_err-look-clause-pages : goal.returns-in_err-look-clause-pages
returns-in_err-look-clause-pages g c = λ known all. c.in_err-look.ensures.pages (still c.in_ok-count.ensures.cause.same known) (c.in_ok-count.ensures.pages known all)

pub returns-clause-pages : goal.returns-clause-pages
returns-clause-pages g c = λ known all. c.in_ok-look.ensures.pages (still c.in_ok-count.ensures.cause.same known) (c.in_ok-count.ensures.pages known all)

pub returns-in_err-look-clause-rests : goal.returns-in_err-look-clause-rests
returns-in_err-look-clause-rests g c = λ known. rests_then _ _ _ (c.in_ok-count.ensures.rests known) (c.in_err-look.ensures.rests (still c.in_ok-count.ensures.cause.same known))

pub returns-clause-rests : goal.returns-clause-rests
returns-clause-rests g c = λ known. rests_then _ _ _ (c.in_ok-count.ensures.rests known) (c.in_ok-look.ensures.rests (still c.in_ok-count.ensures.cause.same known))

pub returns-in_err-look-clause-cause : goal.returns-in_err-look-clause-cause
returns-in_err-look-clause-cause g c = uses_error c.from_residual-in_err-look.result _ _ _ c.in_err-look.field-0.0 c.in_ok-count.ensures.cause.same c.in_ok-count.ensures.cause.account.steady c.in_err-look.ensures.cause c.from_residual-in_err-look.ensures.1
