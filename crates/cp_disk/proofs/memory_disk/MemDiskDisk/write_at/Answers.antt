use Rattle.std.proofs.Common.{refl}
use Rattle.cp_disk.proofs.Counting.{counted_failure, counted_sure}
use Rattle.cp_disk.proofs.memory_disk.MemDiskDisk.write_at.Goals as goal

pub returns-then-fails_now-clause-cause : goal.returns-then-fails_now-clause-cause
returns-then-fails_now-clause-cause c =
    rw (← c.self.view_is) (counted_failure _ _ refl c.fails_now.ensures.later (c.fails_now.ensures.fault c.if-fails_now.true) refl)

pub returns-clause-cause : goal.returns-clause-cause
returns-clause-cause c =
    rw (← c.self.view_is) (counted_sure c.write_at.result _ _ refl c.write_at.ensures.sure (c.fails_now.ensures.none c.if-fails_now.false) c.write_at.ensures.cause.wants)
