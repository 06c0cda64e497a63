use Rattle.std.proofs.Common.{◌≡◌, ◌≤◌, true, take}
use Rattle.cp_model.specs.Changes.{rises}
use Rattle.cp_memory_calls.proofs.next.rises.Given as goal

abbrev pub invariant-loop-number : goal.invariant-loop-number
invariant-loop-number l = record { some : 1 ≤ l.number; front : rises (take l.number l.rows) ≡ true }
