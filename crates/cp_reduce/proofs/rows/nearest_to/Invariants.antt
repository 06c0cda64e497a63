use Rattle.std.proofs.Common.{◌≡◌, ◌≤◌, length}
use Rattle.cp_model.specs.Place.{nearest}
use Rattle.cp_overlay.proofs.Reaches.{reach}
use Rattle.cp_reduce.specs.Told.{RiseByPlace, mark_at}
use Rattle.cp_reduce.proofs.rows.nearest_to.Given as goal

abbrev pub invariant-loop-count : goal.invariant-loop-count
invariant-loop-count l = record { few : l.count ≤ length l.place; rest : RiseByPlace l.rows → nearest (mark_at l.rows) l.place ≡ reach (mark_at l.rows) l.place l.count }

abbrev pub decreases-loop-count : goal.decreases-loop-count
decreases-loop-count l = l.count
