use Rattle.std.proofs.Common.{◌≡◌, take}
use Rattle.cp_model.specs.Place.{Path}
use Rattle.cp_overlay.specs.Shown.{shown, kept, AreThere}
use Rattle.cp_overlay.proofs.origins.room_for.Given as goal

abbrev pub invariant-loop-row : goal.invariant-loop-row
invariant-loop-row l = record {
  same : (r : Path) → kept l.map r ≡ kept l.initial.map r;
  there : AreThere l.map (shown (take l.row-index l.rows));
}
