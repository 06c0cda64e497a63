use Rattle.std.proofs.Common.{◌≡◌, drop, sym, ap, subst, ◌∙◌}
use Rattle.std.specs.Prelude.{IfOk}
use Rattle.std.specs.declared.option.Option.TheVariants.{Some}
use Rattle.cp_model.specs.Place.{Path, nearest, at_target}
use Rattle.cp_model.specs.declared.origin.Origin.TheVariants.{Was as was}
use Rattle.cp_overlay.specs.Kept.{carry, Fits}
use Rattle.cp_overlay.specs.Shown.{kept}
use Rattle.cp_overlay.proofs.OriginLemmas.{origin_none, origin_some, same_path, drop_whole}
use Rattle.cp_overlay.proofs.overlay.Overlay.stood_at.Goals as goal

pub returns-in_ok-clone-in-None : goal.returns-in_ok-clone-in-None
returns-in_ok-clone-in-None c =
    λ q _ o. ap (λ p. Some p) (c.in_ok-clone-in-None.ensures.cases
    ∙ same_path c.args.place.now q (sym (origin_none (kept c.args.self.now.origins) c.args.place.now (ap (nearest (kept c.args.self.now.origins)) (sym c.labels-all.ensures.labels) ∙ c.in-None.ensures)) ∙ o))

pub returns-in-Some : goal.returns-in-Some
returns-in-Some c =
    let f = kept c.args.self.now.origins in
    let all = c.labels-all.result.now in
    subst (λ x. IfOk c.in_tree.result (λ r. (q : Path) → Fits x → x ≡ was (at_target q) → r ≡ Some q))
    (ap (carry c.in-Some.origin.now) (drop_whole c.in-Some.count all) ∙ sym (origin_some f c.args.place.now (drop c.in-Some.count all) c.in-Some.origin.now (ap (nearest f) (sym c.labels-all.ensures.labels) ∙ c.in-Some.ensures.1)))
    c.in_tree.ensures
