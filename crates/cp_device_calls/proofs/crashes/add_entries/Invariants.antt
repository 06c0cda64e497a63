use Rattle.std.proofs.Common.{◌≡◌, false, None}
use Rattle.cp_disk.specs.MemoryDisks.{mem_view}
use Rattle.cp_journal.specs.Holding.{IsAtRest}
use Rattle.cp_device_calls.proofs.crashes.add_entries.Given as goal

abbrev pub invariant-loop : goal.invariant-loop
invariant-loop l = record {
  whole : l.journal.broken ≡ None;
  usable : l.journal.spent ≡ false;
  idle : l.journal.begun ≡ None;
  rest : IsAtRest l.journal.next (mem_view l.disk);
}
