use Rattle.std.proofs.Common.{◌≡◌, ◌++◌, Ok, take}
use Rattle.std.specs.Map.{keys_of}
use Rattle.cp_disk.specs.Views.{IfKnown, Rests}
use Rattle.cp_page.specs.Ranges.{rows_between}
use Rattle.cp_run.specs.Looks.{Looks}
use Rattle.cp_run.specs.Pages.{ArePagesOf, KeepsPages}
use Rattle.cp_run.specs.Sets.{of_order, runs_rows, AreRunsOfRows, IsCache, IsWithinRange}
use Rattle.cp_run.specs.declared.look.TheConstants.{PAGES_KEPT}
use Rattle.cp_run.specs.declared.fault.RunFault.{RunFault}
use Rattle.cp_run.proofs.between.add_of.Given as goal

abbrev pub invariant-loop-run : goal.invariant-loop-run
invariant-loop-run g l = record {
  cache : IsCache l.cache;
  looks : Looks {T = Unit {0}} {E = RunFault} PAGES_KEPT (λ looks. IfKnown (g.D.Disk.known l.initial.disk) (λ v. ArePagesOf v.content l.initial.cache.entries
      → IsWithinRange v.content l.range.low.now l.range.high.now (of_order l.order (take l.run-index l.runs)) looks)) (keys_of l.initial.cache.entries) (keys_of l.cache.entries)
      (g.D.Disk.known l.initial.disk).counts.reads (g.D.Disk.known l.disk).counts.reads (Ok (tt {0}));
  rows : IfKnown (g.D.Disk.known l.initial.disk) (λ v. ArePagesOf v.content l.initial.cache.entries → AreRunsOfRows v.content (of_order l.order (take l.run-index l.runs))
      → l.found.items ≡ l.initial.found.items ++ rows_between l.range.low.now l.range.high.now (runs_rows v.content (of_order l.order (take l.run-index l.runs))));
  pages : KeepsPages (g.D.Disk.known l.initial.disk) (g.D.Disk.known l.disk) l.initial.cache.entries l.cache.entries;
  rests : Rests (g.D.Disk.known l.initial.disk) (g.D.Disk.known l.disk);
  same : (g.D.Disk.known l.disk).known ≡ (g.D.Disk.known l.initial.disk).known;
  faults : (g.D.Disk.known l.disk).counts.faults ≡ (g.D.Disk.known l.initial.disk).counts.faults;
}
