use Rattle.cp_frame.proofs.WrittenOps.{OpsSoFar}
use Rattle.cp_frame.proofs.entry.ops_at.Given as goal

abbrev pub invariant-loop : goal.invariant-loop
invariant-loop l = OpsSoFar l.trees l.bytes l.at l.count l.counter l.items.items l.next
