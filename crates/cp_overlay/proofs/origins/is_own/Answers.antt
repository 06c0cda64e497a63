use Rattle.std.proofs.Common.{sym, ap, ◌∙◌}
use Rattle.cp_model.specs.Place.{path_eq}
use Rattle.cp_overlay.proofs.OriginLemmas.{own_was, was_path}
use Rattle.cp_overlay.proofs.origins.is_own.Goals as goal

pub returns-then-is_target : goal.returns-then-is_target
returns-then-is_target c = (
  λ h. c.in-Was.is ∙ own_was c.in-Was.q c.args.place.now (sym c.is_target.ensures ∙ c.if-is_target.true) (ap (λ l. path_eq l c.args.place.now) (sym c.labels.ensures.labels) ∙ sym c.eq.ensures ∙ h),
  λ e. c.eq.ensures ∙ ap (λ l. path_eq l c.args.place.now) c.labels.ensures.labels ∙ was_path c.in-Was.q c.args.place.now (sym c.in-Was.is ∙ e),
)
