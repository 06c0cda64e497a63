use Rattle.std.proofs.Common.{◌≡◌, ◌≤◌, ◌<◌, ◌+◌, ◌-◌, ◌*◌, take, drop}
use Rattle.cp_disk.specs.Views.{IfKnown, Rests}
use Rattle.cp_journal.proofs.reading.read_range.Given as goal

abbrev pub decreases-loop-done : goal.decreases-loop-done
decreases-loop-done g l = l.len - l.done

abbrev pub invariant-loop-done : goal.invariant-loop-done
invariant-loop-done g l = record {
  within : l.done ≤ l.len;
  rests : Rests (g.D.Disk.known l.initial.disk) (g.D.Disk.known l.disk);
  bytes : IfKnown (g.D.Disk.known l.initial.disk) (λ v. l.into.items ≡ take l.done (drop l.at v.content));
  same : (g.D.Disk.known l.disk).known ≡ (g.D.Disk.known l.initial.disk).known;
  faults : (g.D.Disk.known l.disk).counts.faults ≡ (g.D.Disk.known l.initial.disk).counts.faults;
  full : l.done < l.len → 4096 * (g.D.Disk.known l.disk).counts.reads ≤ 4096 * (g.D.Disk.known l.initial.disk).counts.reads + l.done;
  reads : 4096 * (g.D.Disk.known l.disk).counts.reads ≤ 4096 * (g.D.Disk.known l.initial.disk).counts.reads + l.done + 4095;
}
