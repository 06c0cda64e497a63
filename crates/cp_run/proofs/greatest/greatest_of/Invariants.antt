use Rattle.std.proofs.Common.{◌≡◌, Ok, take}
use Rattle.std.specs.Map.{keys_of}
use Rattle.cp_disk.specs.Views.{IfKnown, Rests}
use Rattle.cp_run.specs.Answers.{IsGreatest}
use Rattle.cp_run.specs.Looks.{Looks}
use Rattle.cp_run.specs.Pages.{ArePagesOf, KeepsPages}
use Rattle.cp_run.specs.Sets.{of_order, runs_rows, AreRunsOfRows, IsCache, IsWithinLogs}
use Rattle.cp_run.specs.declared.look.TheConstants.{PAGES_KEPT}
use Rattle.cp_run.specs.declared.fault.RunFault.{RunFault}
use Rattle.cp_run.proofs.greatest.greatest_of.Given as goal

abbrev pub invariant-loop-run : goal.invariant-loop-run
invariant-loop-run g l = record {
  cache : IsCache l.cache;
  looks : Looks {T = Unit {0}} {E = RunFault} PAGES_KEPT (IsWithinLogs (of_order l.order (take l.run-index l.runs))) (keys_of l.initial.cache.entries) (keys_of l.cache.entries)
      (g.D.Disk.known l.initial.disk).counts.reads (g.D.Disk.known l.disk).counts.reads (Ok (tt {0}));
  row : IfKnown (g.D.Disk.known l.initial.disk) (λ v. ArePagesOf v.content l.initial.cache.entries → AreRunsOfRows v.content (of_order l.order (take l.run-index l.runs))
      → IsGreatest l.key (runs_rows v.content (of_order l.order (take l.run-index l.runs))) l.best);
  pages : KeepsPages (g.D.Disk.known l.initial.disk) (g.D.Disk.known l.disk) l.initial.cache.entries l.cache.entries;
  rests : Rests (g.D.Disk.known l.initial.disk) (g.D.Disk.known l.disk);
  same : (g.D.Disk.known l.disk).known ≡ (g.D.Disk.known l.initial.disk).known;
  faults : (g.D.Disk.known l.disk).counts.faults ≡ (g.D.Disk.known l.initial.disk).counts.faults;
}
