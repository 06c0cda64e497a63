use Rattle.std.proofs.Common.{ap, refl, ◌∙◌, ◌≡◌, ◌-◌, length, take, drop, inl, inr}
use Rattle.std.proofs.lemmas.Result.{IfOk-weaker}
use Rattle.std.specs.declared.option.Option.TheVariants.{None, Some}
use Rattle.cp_model.specs.declared.record.RecOp.TheVariants as letter
use Rattle.cp_model.specs.Place.{below_place}
use Rattle.cp_reduce.specs.Told.{mark_told, copy_mark}
use Rattle.cp_reduce.proofs.Telling.{told-none, told-by, copied-told, rest-same}
use Rattle.cp_reduce.proofs.full.mark_told.Goals as goal

pub returns-in_default : goal.returns-in_default
returns-in_default c = λ h. told-none c.args.rows.now c.args.place.now c.labels.result.now c.labels.ensures.labels (c.in_default.ensures.exact h)

pub returns-in-I : goal.returns-in-I
returns-in-I c = λ h. told-by c.args.rows.now c.args.place.now c.labels.result.now c.labels.ensures.labels c.in-Some.row.now c.in-Some.count letter.I c.in-Some.row.now.src (c.in-Some.ensures.exact h).1 c.in-I.is refl

pub returns-in-Some-src : goal.returns-in-Some-src
returns-in-Some-src c = λ h.
    let labels = c.labels-in-Some-src.result.now in
    let rest = take (length labels - c.in-Some.count) (drop c.in-Some.count labels) in
    IfOk-weaker c.copy_mark.result (λ m. m ≡ copy_mark (below_place c.in-Some-src.from rest)) (λ m. m ≡ mark_told c.args.rows.now c.args.place.now)
    (λ m e. e ∙ ap (λ s. copy_mark (below_place c.in-Some-src.from s)) (rest-same labels c.labels.result.now c.args.place.now c.in-Some.count c.labels-in-Some-src.ensures.labels c.labels.ensures.labels)
    ∙ copied-told c.in-Some-src.from (drop c.in-Some.count c.labels.result.now)
    ∙ told-by c.args.rows.now c.args.place.now c.labels.result.now c.labels.ensures.labels c.in-Some.row.now c.in-Some.count letter.C (Some c.in-Some-src.from) (c.in-Some.ensures.exact h).1 c.in-C.is c.in-Some-src.is)
    c.copy_mark.ensures

pub returns-in-None : goal.returns-in-None
returns-in-None c = λ h. told-by c.args.rows.now c.args.place.now c.labels.result.now c.labels.ensures.labels c.in-Some.row.now c.in-Some.count letter.C None (c.in-Some.ensures.exact h).1 c.in-C.is c.in-None.is

pub returns-in-D : goal.returns-in-D
returns-in-D c = λ h.
    let told = told-by c.args.rows.now c.args.place.now c.labels.result.now c.labels.ensures.labels c.in-Some.row.now c.in-Some.count in
    let at = (c.in-Some.ensures.exact h).1 in
    elim c.in-D.is [ inl d ↦ told letter.D c.in-Some.row.now.src at d refl | inr k ↦ told letter.K c.in-Some.row.now.src at k refl ]
