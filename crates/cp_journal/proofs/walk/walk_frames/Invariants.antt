use Rattle.std.proofs.Common.{◌≡◌, ◌≤◌, ◌+◌, ◌-◌, ◌*◌, List, length}
use Rattle.cp_disk.specs.Views.{IfKnown, Rests}
use Rattle.cp_disk.specs.declared.limits.TheConstants.{DISK_MAX}
use Rattle.cp_journal.specs.Frames.{Frame}
use Rattle.cp_journal.specs.Walks.{Stretches}
use Rattle.cp_journal.specs.Journals.{places, AreInRange}
use Rattle.cp_journal.proofs.walk.walk_frames.Given as goal

abbrev pub decreases-loop-frames : goal.decreases-loop-frames
decreases-loop-frames g l = DISK_MAX - l.next

abbrev pub invariant-loop-frames : goal.invariant-loop-frames
invariant-loop-frames g l = record {
  within : l.next ≤ DISK_MAX;
  most : l.size ≤ DISK_MAX;
  size : IfKnown (g.D.Disk.known l.initial.disk) (λ v. l.size ≡ length v.content);
  range : AreInRange l.frames.items;
  same : (g.D.Disk.known l.disk).known ≡ (g.D.Disk.known l.initial.disk).known;
  faults : (g.D.Disk.known l.disk).counts.faults ≡ (g.D.Disk.known l.initial.disk).counts.faults;
  reads : (g.D.Disk.known l.disk).counts.reads ≤ (g.D.Disk.known l.initial.disk).counts.reads + 2 * length l.frames.items;
  rests : Rests (g.D.Disk.known l.initial.disk) (g.D.Disk.known l.disk);
  found : IfKnown (g.D.Disk.known l.initial.disk) (λ v. (fs : List Frame) × Stretches l.from fs l.next v.content × (l.frames.items ≡ places l.from fs));
}
