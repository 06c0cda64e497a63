use Rattle.std.proofs.Common.{inl, inr, refl}
use Rattle.cp_interpreter.proofs.tell.stopped.Goals as goal
use Rattle.cp_interpreter.proofs.tell.stopped.Goals.{in-Output, in-File, in-Disk, in-NoStore, in-Clock, in-Memory}

pub returns-clause-wrote : goal.returns-clause-wrote
returns-clause-wrote g c = elim c.match-stop.branch [
  | in-Output w ↦ elim w.in-Output.is [ inl e ↦ rw (w.output-is, e) refl | inr e ↦ rw (w.output-is, e) refl ]
  | in-File w ↦ rw (w.output-is, w.in-File.is) w.last_line.ensures.wrote
  | in-Disk w ↦ rw (w.output-is, w.in-Disk.is) w.last_line-in-Disk.ensures.wrote
  | in-NoStore w ↦ rw (w.output-is, w.in-NoStore.is) w.no_store_line.ensures.wrote
  | in-Clock w ↦ rw (w.output-is, w.in-Clock.is) w.last_line-in-Clock.ensures.wrote
  | in-Memory w ↦ rw (w.output-is, w.in-Memory.is) w.last_line-in-Memory.ensures.wrote
]
