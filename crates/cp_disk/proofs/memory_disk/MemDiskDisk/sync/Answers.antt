use Rattle.std.proofs.Common.{rules, refl}
use Rattle.cp_disk.proofs.Counting.{counted_failure}
use Rattle.cp_disk.proofs.memory_disk.MemDiskDisk.sync.Goals as goal

pub returns-then-fails_now-clause-cause : goal.returns-then-fails_now-clause-cause
returns-then-fails_now-clause-cause c =
    rw (← c.self.view_is) (counted_failure _ _ refl c.fails_now.ensures.later (c.fails_now.ensures.fault c.if-fails_now.true) refl)

pub returns-clause-ends : goal.returns-clause-ends
returns-clause-ends c = rw (← c.self.view_is) (record {
  listed = search rules;
  failed = λ no. absurd (cc);
  done = (c.settle.new.self, c.settle.ensures.done, search rules);
  memory = λ no. absurd (cc);
})
