use Rattle.std.proofs.Common.{◌≡◌, ◌++◌}
use Rattle.cp_overlay.specs.Shown.{shown, run}
use Rattle.cp_overlay.proofs.Gathered.{From, Rises}
use Rattle.cp_overlay.proofs.origins.entries_below.Given as goal

abbrev pub invariant-loop-key : goal.invariant-loop-key
invariant-loop-key l = record {
  whole : shown l.rows.items ++ run l.place l.key-iterator ≡ run l.place l.map.entries;
  from : From l.place l.key-iterator;
  rises : Rises l.key-iterator;
}
