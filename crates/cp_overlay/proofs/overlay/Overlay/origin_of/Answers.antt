use Rattle.std.proofs.Common.{◌≡◌, drop, sym, ap, subst, ◌∙◌}
use Rattle.std.specs.Prelude.{IfOk, IfSome, IfNone}
use Rattle.cp_model.specs.Place.{nearest, at_target}
use Rattle.cp_model.specs.declared.origin.Origin.TheVariants.{Was as was}
use Rattle.cp_overlay.specs.Kept.{carry, Fits}
use Rattle.cp_overlay.specs.Shown.{kept}
use Rattle.cp_overlay.proofs.OriginLemmas.{origin_none, origin_some, same_place, drop_whole}
use Rattle.cp_overlay.proofs.overlay.Overlay.origin_of.Goals as goal

pub returns-in_ok-path-in-None-clause-some : goal.returns-in_ok-path-in-None-clause-some
returns-in_ok-path-in-None-clause-some c =
    ap was (same_place _ (at_target c.args.place.now) (c.in_ok-db-in-None.ensures, c.in_ok-path-in-None.ensures.cases))
    ∙ sym (origin_none (kept c.args.self.now.origins) c.args.place.now (ap (nearest (kept c.args.self.now.origins)) (sym c.labels-all.ensures.labels) ∙ c.in-None.ensures))

pub returns-in-Some-clause-some : goal.returns-in-Some-clause-some
returns-in-Some-clause-some c =
    let f = kept c.args.self.now.origins in
    let all = c.labels-all.result.now in
    subst (λ x. IfOk c.carry.result (λ r. IfSome r (λ o. o ≡ x)))
    (ap (carry c.in-Some.origin.now) (drop_whole c.in-Some.count all) ∙ sym (origin_some f c.args.place.now (drop c.in-Some.count all) c.in-Some.origin.now (ap (nearest f) (sym c.labels-all.ensures.labels) ∙ c.in-Some.ensures.1)))
    c.carry.ensures.some

pub returns-in-Some-clause-none : goal.returns-in-Some-clause-none
returns-in-Some-clause-none c =
    let f = kept c.args.self.now.origins in
    let all = c.labels-all.result.now in
    subst (λ x. IfOk c.carry.result (λ r. IfNone r (Fits x → ⊥)))
    (ap (carry c.in-Some.origin.now) (drop_whole c.in-Some.count all) ∙ sym (origin_some f c.args.place.now (drop c.in-Some.count all) c.in-Some.origin.now (ap (nearest f) (sym c.labels-all.ensures.labels) ∙ c.in-Some.ensures.1)))
    c.carry.ensures.none
