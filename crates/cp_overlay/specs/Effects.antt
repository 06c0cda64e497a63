-- Effects as the overlay tells them.
use Rattle.cp_path.specs.declared.loc.Loc.{Loc}
use Rattle.cp_model.specs.declared.effect.Effect.{Effect}
use Rattle.cp_model.specs.declared.effect.Effect.TheVariants.{Same as same, New as made, From as from}
use Rattle.cp_overlay.specs.declared.effect.Tag.{Tag}
use Rattle.cp_overlay.specs.declared.effect.Tag.TheVariants.{Same, New, From}

-- the effect of a tag with the place beside it
abbrev pub told : Tag → Loc → Effect
told Same q = same
told New q = made
told From q = from q
