use Rattle.std.proofs.Common.{refl}
use Rattle.cp_disk.proofs.Kept.{kept_sync, synced}
use Rattle.cp_disk.proofs.sure_disk.SureDisk.settle.Goals as goal

pub invariant_of-self : goal.invariant_of-self
invariant_of-self c = kept_sync _ _ _ c.self.invariant _ c.note_sync.ensures

pub returns-clause-synced : goal.returns-clause-synced
returns-clause-synced c = rw (← c.self.view_is) (synced _ _ _ c.note_sync.ensures)

pub returns-clause-done : goal.returns-clause-done
returns-clause-done c = rw (← c.self.view_is) (_, c.note_sync.ensures, refl)
