use Rattle.std.proofs.Common.{ap, ◌∙◌}
use Rattle.cp_overlay.specs.Shown.{joined}
use Rattle.cp_overlay.proofs.Found.{kept_lookup}
use Rattle.cp_overlay.proofs.origins.at.Goals as goal

pub returns-in-Some : goal.returns-in-Some
returns-in-Some c = c.as_ref.ensures.value ∙ ap joined c.in-Some.ensures.value ∙ kept_lookup c.args.map.now c.args.place.now

pub returns-in-None : goal.returns-in-None
returns-in-None c = ap joined c.in-None.ensures.value ∙ kept_lookup c.args.map.now c.args.place.now
