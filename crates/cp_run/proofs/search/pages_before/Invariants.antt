use Rattle.std.proofs.Common.{◌≡◌, ◌≤◌, ◌-◌, Ok}
use Rattle.std.specs.Map.{keys_of}
use Rattle.cp_disk.specs.Views.{IfKnown, Rests}
use Rattle.cp_run.specs.Looks.{Looks}
use Rattle.cp_run.specs.Pages.{ArePagesOf, KeepsPages}
use Rattle.cp_run.specs.Sets.{IsCache}
use Rattle.cp_run.specs.Searching.{IsSplit}
use Rattle.cp_run.specs.declared.look.TheConstants.{PAGES_KEPT}
use Rattle.cp_run.specs.declared.fault.RunFault.{RunFault}
use Rattle.cp_run.proofs.Halving.{HasHalved}
use Rattle.cp_run.proofs.search.pages_before.Given as goal

abbrev pub decreases-loop-low : goal.decreases-loop-low
decreases-loop-low g l = l.high - l.low

abbrev pub invariant-loop-low : goal.invariant-loop-low
invariant-loop-low g l = record {
  order : (l.low ≤ l.high) × (l.high ≤ l.run.pages);
  cache : IsCache l.cache;
  looks : Looks {T = Unit {0}} {E = RunFault} PAGES_KEPT (HasHalved l.run.pages l.low l.high) (keys_of l.initial.cache.entries) (keys_of l.cache.entries)
      (g.D.Disk.known l.initial.disk).counts.reads (g.D.Disk.known l.disk).counts.reads (Ok (tt {0}));
  split : IfKnown (g.D.Disk.known l.initial.disk) (λ v. ArePagesOf v.content l.initial.cache.entries → IsSplit v.content l.run l.key l.low l.high);
  pages : KeepsPages (g.D.Disk.known l.initial.disk) (g.D.Disk.known l.disk) l.initial.cache.entries l.cache.entries;
  rests : Rests (g.D.Disk.known l.initial.disk) (g.D.Disk.known l.disk);
  same : (g.D.Disk.known l.disk).known ≡ (g.D.Disk.known l.initial.disk).known;
  faults : (g.D.Disk.known l.disk).counts.faults ≡ (g.D.Disk.known l.initial.disk).counts.faults;
}
