use Rattle.std.proofs.Common.{◌≡◌, sym, subst, ◌∙◌}
use Rattle.cp_path.specs.declared.loc.Loc.{Loc}
use Rattle.cp_model.specs.Answers.{answer_to}
use Rattle.cp_model.specs.declared.query.Query.TheVariants.{Hist}
use Rattle.cp_gen.proofs.Counting.{copies-given, copies-none}
use Rattle.cp_gen.proofs.summary.copies_at.Goals as goal

pub returns-in-Some-clause-copies : goal.returns-in-Some-clause-copies
returns-in-Some-clause-copies g c = λ t z.
    let asked = subst (λ (q : Loc). c.in_ok-found.found ≡ answer_to t (Hist q)) c.in_ok-place.ensures (c.in_ok-found.ensures.answer t z) in
    c.tid_count-copies.ensures ∙ copies-given t c.args.path.now c.in-Some.answer (sym c.in-Some.is ∙ asked)

pub returns-in-None-clause-copies : goal.returns-in-None-clause-copies
returns-in-None-clause-copies g c = λ t z.
    let asked = subst (λ (q : Loc). c.in_ok-found.found ≡ answer_to t (Hist q)) c.in_ok-place.ensures (c.in_ok-found.ensures.answer t z) in
    copies-none t c.args.path.now (sym c.in-None.is ∙ asked)
