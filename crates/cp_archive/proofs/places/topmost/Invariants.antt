use Rattle.cp_archive.proofs.Covering.{IsTop}
use Rattle.cp_archive.proofs.places.topmost.Given as goal

abbrev pub invariant-loop-place : goal.invariant-loop-place
invariant-loop-place l = IsTop l.places l.kept.items l.place-index
