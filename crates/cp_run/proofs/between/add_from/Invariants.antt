use Rattle.std.proofs.Common.{◌≡◌, ◌≤◌, ◌-◌, ◌++◌, ℕ, Ok}
use Rattle.std.specs.Map.{keys_of}
use Rattle.cp_disk.specs.Views.{IfKnown, Rests}
use Rattle.cp_page.specs.Ranges.{rows_between}
use Rattle.cp_run.specs.Holding.{rows_after, IsRunOfRows}
use Rattle.cp_run.specs.Looks.{Looks}
use Rattle.cp_run.specs.Pages.{ArePagesOf, KeepsPages}
use Rattle.cp_run.specs.Searching.{IsSplit}
use Rattle.cp_run.specs.Sets.{IsCache}
use Rattle.cp_run.specs.declared.look.TheConstants.{PAGES_KEPT}
use Rattle.cp_run.specs.declared.fault.RunFault.{RunFault}
use Rattle.cp_run.proofs.Passing.{HasPassed}
use Rattle.cp_run.proofs.between.add_from.Given as goal

abbrev pub decreases-loop-number : goal.decreases-loop-number
decreases-loop-number g l = l.run.pages - l.number

abbrev pub invariant-loop-number : goal.invariant-loop-number
invariant-loop-number g l = record {
  order : (l.first ≤ l.number) × (l.number ≤ l.run.pages);
  cache : IsCache l.cache;
  looks : Looks {T = Unit {0}} {E = RunFault} PAGES_KEPT (λ looks. IfKnown (g.D.Disk.known l.initial.disk) (λ v. ArePagesOf v.content l.initial.cache.entries → IsRunOfRows v.content l.run
      → (n : ℕ) × IsSplit v.content l.run l.range.low.now n n × (l.first ≡ n - 1) → HasPassed v.content l.run l.range.low.now l.range.high.now l.first l.number looks))
      (keys_of l.initial.cache.entries) (keys_of l.cache.entries) (g.D.Disk.known l.initial.disk).counts.reads (g.D.Disk.known l.disk).counts.reads (Ok (tt {0}));
  rows : IfKnown (g.D.Disk.known l.initial.disk) (λ v. ArePagesOf v.content l.initial.cache.entries → IsRunOfRows v.content l.run
      → l.found.items ++ rows_between l.range.low.now l.range.high.now (rows_after v.content l.run l.number) ≡ l.initial.found.items ++ rows_between l.range.low.now l.range.high.now (rows_after v.content l.run l.first));
  pages : KeepsPages (g.D.Disk.known l.initial.disk) (g.D.Disk.known l.disk) l.initial.cache.entries l.cache.entries;
  rests : Rests (g.D.Disk.known l.initial.disk) (g.D.Disk.known l.disk);
  same : (g.D.Disk.known l.disk).known ≡ (g.D.Disk.known l.initial.disk).known;
  faults : (g.D.Disk.known l.disk).counts.faults ≡ (g.D.Disk.known l.initial.disk).counts.faults;
}
