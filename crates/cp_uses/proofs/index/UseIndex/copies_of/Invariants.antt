use Rattle.std.proofs.Common.{◌≡◌, ◌≤◌, length, take}
use Rattle.cp_uses.specs.Index.{copies_by}
use Rattle.cp_uses.specs.Sources.{source_key}
use Rattle.cp_uses.proofs.index.UseIndex.copies_of.Given as goal

abbrev pub invariant-loop-step : goal.invariant-loop-step
invariant-loop-step l = record {
  within : l.step-index ≤ length l.steps;
  found : l.found.items ≡ take l.step-index (copies_by l.self (source_key l.source) l.after);
}
