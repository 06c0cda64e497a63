use Rattle.cp_format.specs.Parts.{labels_format}
use Rattle.cp_format.proofs.Counted.{SoFar}
use Rattle.cp_format.proofs.Labels.{HaveRoom}
use Rattle.cp_format.proofs.place.labels_at.Given as goal

abbrev pub invariant-loop-k : goal.invariant-loop-k
invariant-loop-k l = SoFar HaveRoom labels_format l.bytes l.at l.count l.room l.k l.path l.next l.left
