use Rattle.std.proofs.Common.{◌≡◌, ◌≤◌, take, length}
use Rattle.cp_model.specs.Place.{Path}
use Rattle.cp_model.specs.Keyed.{look}
use Rattle.cp_overlay.specs.Shown.{shown, kept, set_or, AreThere}
use Rattle.cp_overlay.proofs.origins.set_all.Given as goal

abbrev pub invariant-loop-count : goal.invariant-loop-count
invariant-loop-count l = record {
  few : l.count ≤ length l.rows;
  value : (r : Path) → set_or (look r (shown (take l.count l.rows))) (kept l.map r) ≡ set_or (look r (shown l.initial.rows)) (kept l.initial.map r);
  there : AreThere l.map (shown (take l.count l.rows));
}

abbrev pub decreases-loop-count : goal.decreases-loop-count
decreases-loop-count l = l.count
