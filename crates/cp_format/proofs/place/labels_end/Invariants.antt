use Rattle.cp_path.specs.Place.{Path}
use Rattle.cp_format.specs.Parts.{labels_format}
use Rattle.cp_format.proofs.Counted.{SoFar}
use Rattle.cp_format.proofs.Labels.{HaveRoom}
use Rattle.cp_format.proofs.place.labels_end.Given as goal

abbrev pub invariant-loop-k : goal.invariant-loop-k
invariant-loop-k l = (p : Path) × SoFar HaveRoom labels_format l.bytes l.at l.count l.room l.k p l.next l.left
