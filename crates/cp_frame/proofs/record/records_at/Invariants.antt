use Rattle.std.proofs.Common.{◌≡◌}
use Rattle.cp_frame.proofs.RecordLists.{RecordsSoFar, last_record}
use Rattle.cp_frame.proofs.record.records_at.Given as goal

abbrev pub invariant-loop : goal.invariant-loop
invariant-loop l = record {
  so_far : RecordsSoFar l.bytes l.at l.count l.counter l.records l.next;
  last : l.elder ≡ last_record l.records;
}
