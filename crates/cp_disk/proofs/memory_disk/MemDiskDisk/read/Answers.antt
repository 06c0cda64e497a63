use Rattle.std.proofs.Common.{refl}
use Rattle.cp_disk.proofs.Counting.{counted_failure}
use Rattle.cp_disk.proofs.memory_disk.MemDiskDisk.read.Goals as goal

pub returns-then-fails_now-clause-cause : goal.returns-then-fails_now-clause-cause
returns-then-fails_now-clause-cause c =
    rw (← c.self.view_is) (counted_failure _ _ refl c.fails_now.ensures.later (c.fails_now.ensures.fault c.if-fails_now.true) (rw c.count_read.ensures refl))
