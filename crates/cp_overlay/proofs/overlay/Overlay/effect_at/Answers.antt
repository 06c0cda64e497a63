use Rattle.std.proofs.Common.{sym, ap, ◌∙◌}
use Rattle.cp_model.specs.declared.origin.Origin.TheVariants.{New as new, Was as was}
use Rattle.cp_model.specs.Place.{nearest}
use Rattle.cp_overlay.specs.Seen.{seen}
use Rattle.cp_overlay.proofs.EffectLemmas.{told-none, told-new, told-same, told-from, effect-kept, near-labels, own-labels, over-labels, either-first, either-second, neither}
use Rattle.cp_overlay.proofs.overlay.Overlay.effect_at.Goals as goal
use Rattle.cp_overlay.proofs.overlay.Overlay.effect_at.Goals.{then-is_own-via-then-is_own, then-is_own-via-else-is_own+then-is_over}

pub returns-then-is_own-clause-exact : goal.returns-then-is_own-clause-exact
returns-then-is_own-clause-exact c =
    let o = seen c.args.self.now in
    let p = c.args.place.now in
    let l = c.labels-in-Some-Was-default.result.now in
    let q = c.in-Some-Was-default.from in
    let n = c.in-Some-Was-default.count in
    let i = c.labels-in-Some-Was-default.ensures.labels in
    let near = near-labels o.origins p c.labels.result.now c.in-Some-Was-default.field-0-0.now (was q) n c.labels.ensures.labels c.in-Some-Was-default.ensures.1 c.in-Some-Was-default.field-0-0-is in
    let own = own-labels p l c.split_at.result.0.now q n c.is_own.result i c.is_own.ensures c.split_at.ensures.front in
    elim c.then-is_own.branch [
      | then-is_own-via-then-is_own w ↦ told-same o.origins p q n near (either-first c.is_own.result _ _ own w.if-is_own.true)
      | then-is_own-via-else-is_own+then-is_over w ↦ told-same o.origins p q n near (either-second w.is_over.result _ _ (over-labels p l c.split_at.result.1.now q n w.is_over.result i w.is_over.ensures c.split_at.ensures.back) w.if-is_over.true)
    ]

pub returns-then-is_own-clause-step : goal.returns-then-is_own-clause-step
returns-then-is_own-clause-step c = λ t w e ok st h. returns-then-is_own-clause-exact c ∙ effect-kept (seen c.args.self.now) t w ok st c.args.place.now e h

pub returns-in-None-clause-exact : goal.returns-in-None-clause-exact
returns-in-None-clause-exact c = let o = seen c.args.self.now in told-none o.origins c.args.place.now (ap (nearest o.origins) (sym c.labels.ensures.labels) ∙ c.in-None.ensures)

pub returns-in-None-clause-step : goal.returns-in-None-clause-step
returns-in-None-clause-step c = λ t w e ok st h. returns-in-None-clause-exact c ∙ effect-kept (seen c.args.self.now) t w ok st c.args.place.now e h

pub returns-in-Some-New-default-clause-exact : goal.returns-in-Some-New-default-clause-exact
returns-in-Some-New-default-clause-exact c =
    let o = seen c.args.self.now in
    told-new o.origins c.args.place.now _ (near-labels o.origins c.args.place.now c.labels.result.now c.in-Some-New-default.field-0-0.now new _ c.labels.ensures.labels c.in-Some-New-default.ensures.1 c.in-Some-New-default.field-0-0-is)

pub returns-in-Some-New-default-clause-step : goal.returns-in-Some-New-default-clause-step
returns-in-Some-New-default-clause-step c = λ t w e ok st h. returns-in-Some-New-default-clause-exact c ∙ effect-kept (seen c.args.self.now) t w ok st c.args.place.now e h

pub returns-else-is_over-clause-exact : goal.returns-else-is_over-clause-exact
returns-else-is_over-clause-exact c =
    let o = seen c.args.self.now in
    let p = c.args.place.now in
    let l = c.labels-in-Some-Was-default.result.now in
    let q = c.in-Some-Was-default.from in
    let n = c.in-Some-Was-default.count in
    let i = c.labels-in-Some-Was-default.ensures.labels in
    let near = near-labels o.origins p c.labels.result.now c.in-Some-Was-default.field-0-0.now (was q) n c.labels.ensures.labels c.in-Some-Was-default.ensures.1 c.in-Some-Was-default.field-0-0-is in
    let own = own-labels p l c.split_at.result.0.now q n c.is_own.result i c.is_own.ensures c.split_at.ensures.front in
    let over = over-labels p l c.split_at.result.1.now q n c.is_over.result i c.is_over.ensures c.split_at.ensures.back in
    told-from o.origins p q n near (neither c.is_own.result c.is_over.result _ _ own c.if-is_own.false over c.if-is_over.false) c.set.new.self c.set.ensures

pub returns-else-is_over-clause-step : goal.returns-else-is_over-clause-step
returns-else-is_over-clause-step c = λ t w e ok st h. returns-else-is_over-clause-exact c ∙ effect-kept (seen c.args.self.now) t w ok st c.args.place.now e h
