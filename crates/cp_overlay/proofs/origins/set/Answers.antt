use Rattle.std.proofs.Common.{◌∙◌, refl}
use Rattle.std.specs.declared.option.Option.TheVariants.{Some}
use Rattle.cp_overlay.proofs.Found.{kept_updated, key_still, key_lookup, none_absent}
use Rattle.cp_overlay.proofs.origins.set.Goals as goal

pub returns-in-Some-clause-value : goal.returns-in-Some-clause-value
returns-in-Some-clause-value c =
    kept_updated c.args.map.now (c.get_mut.follows.lender c.args.origin) c.args.key.now (Some c.args.origin)
    ((c.get_mut.follows.holds c.args.origin).3 (key_lookup c.args.map.now c.args.key.now ∙ c.requires))

pub returns-in-Some-clause-keys : goal.returns-in-Some-clause-keys
returns-in-Some-clause-keys c =
    key_still c.args.map.now (c.get_mut.follows.lender c.args.origin) c.args.key.now (Some c.args.origin)
    ((c.get_mut.follows.holds c.args.origin).3 (key_lookup c.args.map.now c.args.key.now ∙ c.requires)) refl c.requires

pub returns-in_default-clause-value : goal.returns-in_default-clause-value
returns-in_default-clause-value c = λ r. absurd (none_absent c.args.map.now c.args.key.now c.in_default.ensures.value c.requires)
