use Rattle.std.proofs.Common.{◌≡◌, ◌≤◌, ◌+◌, ◌-◌, ◌++◌, ℕ, List, false, Some, take, length}
use Rattle.cp_disk.specs.Views.{IfKnown}
use Rattle.cp_journal.specs.Begun.{KeepsFront, HasBegun}
use Rattle.cp_check.proofs.writing.put_bytes.Given as goal

abbrev pub decreases-loop-done : goal.decreases-loop-done
decreases-loop-done g l = length l.bytes - l.done

abbrev pub invariant-loop-done : goal.invariant-loop-done
invariant-loop-done g l = record {
  within : l.done ≤ length l.bytes;
  usable : l.journal.spent ≡ false;
  len : (n : ℕ) → l.initial.journal.begun ≡ Some n → l.journal.begun ≡ Some (n + l.done);
  frames : l.journal.frames ≡ l.initial.journal.frames;
  next : l.journal.next ≡ l.initial.journal.next;
  broken : l.journal.broken ≡ l.initial.journal.broken;
  same : (g.D.Disk.known l.disk).known ≡ (g.D.Disk.known l.initial.disk).known;
  faults : (g.D.Disk.known l.disk).counts.faults ≡ (g.D.Disk.known l.initial.disk).counts.faults;
  reads : (g.D.Disk.known l.disk).counts.reads ≡ (g.D.Disk.known l.initial.disk).counts.reads;
  front : KeepsFront l.initial.journal.next (g.D.Disk.known l.initial.disk) (g.D.Disk.known l.disk);
  body : IfKnown (g.D.Disk.known l.initial.disk) (λ v. (body : List ℕ) → HasBegun l.initial.journal body v → HasBegun l.journal (body ++ take l.done l.bytes) (g.D.Disk.known l.disk).view);
}
