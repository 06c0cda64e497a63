-- What an overlay keeps.
use Rattle.cp_overlay.specs.declared.overlay.Overlay.{Overlay}
use Rattle.cp_overlay.specs.Kept.{Kept}
use Rattle.cp_overlay.specs.Shown.{kept}
use Rattle.cp_overlay.specs.Lost.{lost_in}

-- the origins and the lost children that an overlay keeps
abbrev pub seen : Overlay → Kept
seen o = record { origins = kept o.origins; lost = lost_in o.lost }
