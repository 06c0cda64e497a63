use Rattle.std.proofs.Common.{◌≡◌, ◌++◌}
use Rattle.cp_overlay.specs.Shown.{run, paths, paths_under}
use Rattle.cp_overlay.proofs.Gathered.{From, Rises}
use Rattle.cp_overlay.proofs.origins.keys_below.Given as goal

abbrev pub invariant-loop-key : goal.invariant-loop-key
invariant-loop-key l = record {
  whole : paths l.keys.items ++ paths_under l.place (run l.place l.key-iterator) ≡ paths_under l.place (run l.place l.map.entries);
  from : From l.place l.key-iterator;
  rises : Rises l.key-iterator;
}
