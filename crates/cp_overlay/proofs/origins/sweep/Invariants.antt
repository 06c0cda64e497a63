use Rattle.std.proofs.Common.{◌≡◌}
use Rattle.cp_model.specs.Place.{Path}
use Rattle.cp_overlay.specs.Shown.{kept}
use Rattle.cp_overlay.proofs.origins.sweep.Given as goal

abbrev pub invariant-loop-row : goal.invariant-loop-row
invariant-loop-row l = (r : Path) → kept l.map r ≡ kept l.initial.map r
