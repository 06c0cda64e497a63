use Rattle.std.proofs.Common.{sym, ap, ◌∙◌}
use Rattle.cp_overlay.specs.Kept.{carry}
use Rattle.cp_overlay.specs.Shown.{kept}
use Rattle.cp_overlay.proofs.OriginLemmas.{given_root, given_some, given_none, root_given, some_given, none_given, drop_whole}
use Rattle.cp_overlay.proofs.origins.is_given.Goals as goal

pub returns-in_default-split_last : goal.returns-in_default-split_last
returns-in_default-split_last c = (
  λ h. given_root (kept c.args.map.now) c.args.place.now c.in-Some.origin.now c.in_default-split_last.ensures.cases (sym c.in-Some.ensures) (c.is_own.ensures.0 h),
  λ g. c.is_own.ensures.1 (root_given (kept c.args.map.now) c.args.place.now c.in-Some.origin.now c.in_default-split_last.ensures.cases (sym c.in-Some.ensures) g),
)

pub returns-in-Some-nearest_to : goal.returns-in-Some-nearest_to
returns-in-Some-nearest_to c = (
  λ h. given_some (kept c.args.map.now) c.args.place.now c.in-Some-split_last.above.now c.in-Some-split_last.field-0-0.now c.in-Some.origin.now c.in-Some-nearest_to.from.now c.in-Some-nearest_to.count
      c.in-Some-split_last.ensures.cases.0 (sym c.in-Some.ensures) c.in-Some-nearest_to.ensures.0 c.in-Some-nearest_to.ensures.1
      (c.is_carried.ensures.0 h ∙ ap (carry c.in-Some-nearest_to.from.now) (drop_whole c.in-Some-nearest_to.count c.args.place.now)),
  λ g. c.is_carried.ensures.1 (some_given (kept c.args.map.now) c.args.place.now c.in-Some-split_last.above.now c.in-Some-split_last.field-0-0.now c.in-Some.origin.now c.in-Some-nearest_to.from.now c.in-Some-nearest_to.count
      c.in-Some-split_last.ensures.cases.0 (sym c.in-Some.ensures) c.in-Some-nearest_to.ensures.0 c.in-Some-nearest_to.ensures.1 g
      ∙ ap (carry c.in-Some-nearest_to.from.now) (sym (drop_whole c.in-Some-nearest_to.count c.args.place.now))),
)

pub returns-in-None : goal.returns-in-None
returns-in-None c = (
  λ h. given_none (kept c.args.map.now) c.args.place.now c.in-Some-split_last.above.now c.in-Some-split_last.field-0-0.now c.in-Some.origin.now c.in-Some-split_last.ensures.cases.0 (sym c.in-Some.ensures) c.in-None.ensures
      (c.is_own-in-None.ensures.0 h),
  λ g. c.is_own-in-None.ensures.1 (none_given (kept c.args.map.now) c.args.place.now c.in-Some-split_last.above.now c.in-Some-split_last.field-0-0.now c.in-Some.origin.now c.in-Some-split_last.ensures.cases.0 (sym c.in-Some.ensures)
      c.in-None.ensures g),
)
