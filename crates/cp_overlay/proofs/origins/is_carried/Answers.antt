use Rattle.std.proofs.Common.{sym, ap, ◌∙◌}
use Rattle.cp_model.specs.Place.{strip}
use Rattle.cp_overlay.specs.Kept.{carry}
use Rattle.cp_overlay.proofs.OriginLemmas.{carried_was, below_rest, none_rest, rest_same}
use Rattle.cp_overlay.proofs.origins.is_carried.Goals as goal

pub returns-then-eq : goal.returns-then-eq
returns-then-eq c =
    let q = c.in-Was-Was.q in
    let from = c.in-Was-Was.from in
    let rest = c.in-Some.ensures ∙ ap (λ l. strip l c.labels.result.now) c.labels-in-Was-Was.ensures.labels ∙ ap (strip from.path) c.labels.ensures.labels in (
      λ h. c.in-Was-Was.is-0
          ∙ carried_was q from c.in-Some.rest.now c.args.labels.now (sym c.eq.ensures ∙ c.if-eq.true) rest (sym c.eq-then-eq.ensures ∙ h)
          ∙ ap (λ o. carry o c.args.labels.now) (sym c.in-Was-Was.is-1),
      λ e. c.eq-then-eq.ensures
          ∙ rest_same c.in-Some.rest.now c.args.labels.now (rest ∙ below_rest q from c.args.labels.now (sym c.in-Was-Was.is-0 ∙ e ∙ ap (λ o. carry o c.args.labels.now) c.in-Was-Was.is-1)),
    )

pub returns-in-None : goal.returns-in-None
returns-in-None c =
    let q = c.in-Was-Was.q in
    let from = c.in-Was-Was.from in
    let rest = c.in-None.ensures ∙ ap (λ l. strip l c.labels.result.now) c.labels-in-Was-Was.ensures.labels ∙ ap (strip from.path) c.labels.ensures.labels in
    (λ h. absurd (cc), λ e. absurd (none_rest q from c.args.labels.now rest (sym c.in-Was-Was.is-0 ∙ e ∙ ap (λ o. carry o c.args.labels.now) c.in-Was-Was.is-1)))
