use Rattle.std.proofs.Common.{◌≡◌, ◌≤◌, length}
use Rattle.cp_model.specs.Place.{nearest}
use Rattle.cp_overlay.specs.Shown.{kept}
use Rattle.cp_overlay.proofs.Reaches.{reach}
use Rattle.cp_overlay.proofs.origins.nearest_to.Given as goal

abbrev pub invariant-loop-count : goal.invariant-loop-count
invariant-loop-count l = record { few : l.count ≤ length l.place; rest : nearest (kept l.map) l.place ≡ reach (kept l.map) l.place l.count }

abbrev pub decreases-loop-count : goal.decreases-loop-count
decreases-loop-count l = l.count
