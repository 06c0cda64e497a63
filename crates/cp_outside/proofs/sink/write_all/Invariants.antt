use Rattle.std.proofs.Common.{◌≡◌, ◌≤◌, ◌-◌, length, take}
use Rattle.std.specs.Io.KnownBytes.{Appends}
use Rattle.cp_outside.proofs.sink.write_all.Given as goal

abbrev pub decreases-loop-at : goal.decreases-loop-at
decreases-loop-at g l = length l.bytes - l.at

abbrev pub invariant-loop-at : goal.invariant-loop-at
invariant-loop-at g l = record {
  within : l.at ≤ length l.bytes;
  wrote : Appends (g.O.Sink.contents l.initial.output) (g.O.Sink.contents l.output) (take l.at l.bytes);
  steady : g.O.Sink.faults l.output ≡ g.O.Sink.faults l.initial.output;
  kept : g.O.Sink.refusals l.output ≡ g.O.Sink.refusals l.initial.output;
}
