use Rattle.std.proofs.Common.{refl, ◌∙◌}
use Rattle.std.specs.declared.option.Option.TheVariants.{None}
use Rattle.cp_overlay.specs.Shown.{kept}
use Rattle.cp_overlay.proofs.Found.{kept_updated, kept_fewer, kept_gone}
use Rattle.cp_overlay.proofs.OriginLemmas.{settled_same, but_is}
use Rattle.cp_overlay.proofs.SparseLemmas.{none_given_up}
use Rattle.cp_overlay.proofs.origins.settle.Goals as goal

pub returns-then-is_given-clause-same : goal.returns-then-is_given-clause-same
returns-then-is_given-clause-same c =
    settled_same (kept c.args.map.now) (kept c.remove.new.self) c.args.place.now
    (λ r. kept_updated c.args.map.now c.remove.new.self c.args.place.now None c.remove.ensures.updates r ∙ but_is c.args.place.now (kept c.args.map.now) r)
    (c.is_given.ensures.0 c.if-is_given.true)

pub returns-then-is_given-clause-fewer : goal.returns-then-is_given-clause-fewer
returns-then-is_given-clause-fewer c = kept_fewer c.args.map.now c.remove.new.self c.args.place.now None c.remove.ensures.updates refl

pub returns-then-is_given-clause-settled : goal.returns-then-is_given-clause-settled
returns-then-is_given-clause-settled c = none_given_up (kept c.remove.new.self) c.args.place.now (kept_gone c.args.map.now c.remove.new.self c.args.place.now None c.remove.ensures.updates refl)
