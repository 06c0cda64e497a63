use Rattle.std.proofs.Common.{◌∙◌, ap, subst, Err}
use Rattle.std.proofs.lemmas.Result.{IfOk-weaker}
use Rattle.cp_db.specs.Archives.{HasVersions}
use Rattle.cp_program.proofs.Versioned.{target-named, replies-answered, replies-refused}
use Rattle.cp_program.proofs.version.answer_at.Goals as goal

pub answer_of_place-requires : goal.answer_of_place-requires
answer_of_place-requires g c = record { place = target-named c.args.query c.requires.place }

pub returns-in-Ok : goal.returns-in-Ok
returns-in-Ok g c = λ right h items z k is.
    let asked = c.answer_of_place.ensures in
    let parts = c.in_ok-parts.ensures in
    replies-answered z (g.R.TreeRep.contents c.in_ok-parts.parts.tree) c.args.query c.answer_of_place.result (parts.tree right h items z k is) asked.place right c.in-Ok.answer c.in-Ok.is
    (λ e. asked.answer z (parts.state h items z (subst (λ b. HasVersions b h items c.args.kept) e k) is))

pub returns : goal.returns
returns g c = λ right h items z k is.
    let parts = c.in_ok-parts.ensures in
    IfOk-weaker c.unanswered.result _ _
    (λ y p. replies-refused z (g.R.TreeRep.contents c.in_ok-parts.parts.tree) c.args.query c.answer_of_place.result (parts.tree right h items z k is) c.answer_of_place.ensures.place right y (c.in-Err.is ∙ ap (λ e. Err e) p.0) p.1)
    c.unanswered.ensures.place
