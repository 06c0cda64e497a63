use Rattle.std.proofs.Common.{◌≡◌, sym, subst, ◌∙◌}
use Rattle.cp_path.specs.declared.loc.Loc.{Loc}
use Rattle.cp_model.specs.Answers.{answer_to}
use Rattle.cp_model.specs.declared.query.Query.TheVariants.{Src}
use Rattle.cp_gen.proofs.Counting.{born-given, born-none}
use Rattle.cp_gen.proofs.summary.is_born.Goals as goal

pub returns-in-Some-clause-born : goal.returns-in-Some-clause-born
returns-in-Some-clause-born g c = λ t z.
    let asked = subst (λ (q : Loc). c.in_ok-found.found ≡ answer_to t (Src q)) c.in_ok-place.ensures (c.in_ok-found.ensures.answer t z) in
    c.has_tid-born.ensures ∙ born-given t c.args.path.now c.in-Some.answer (sym c.in-Some.is ∙ asked)

pub returns-in-None-clause-born : goal.returns-in-None-clause-born
returns-in-None-clause-born g c = λ t z.
    let asked = subst (λ (q : Loc). c.in_ok-found.found ≡ answer_to t (Src q)) c.in_ok-place.ensures (c.in_ok-found.ensures.answer t z) in
    born-none t c.args.path.now (sym c.in-None.is ∙ asked)
