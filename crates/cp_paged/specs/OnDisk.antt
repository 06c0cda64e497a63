-- What a store keeps on the pages of runs on a disk, and in memory.
use Rattle.std.specs.Prelude.{[]}
use Rattle.cp_disk.specs.declared.disk.Disk as disk
use Rattle.cp_store.specs.declared.store.ProvStore.{Ghosts}
use Rattle.cp_paged.specs.Keyed.{HasRecords}
use Rattle.cp_paged.specs.Paged.{KeepsBoth}
use Rattle.cp_paged.specs.Stored.{HasRowsOf, cost_of}
use Rattle.cp_paged.specs.declared.paged.PagedStore.{PagedStore}

-- a store on pages and the disk on which they lie, in the words of a store
abbrev pub stored_on : {D : Type 0} → disk.Ghosts D → Ghosts (PagedStore × D)
stored_on g = record {
  kept_kind = λ s. s.0.kind;
  last_tid = λ s. s.0.later.tail.rows.upto;
  keeps = λ s. KeepsBoth (HasRecords (HasRowsOf (g.known s.1) s.0.runs) s.0.kind) s.0.kind s.0.later;
  holds = λ s. [];
  cost = λ s. cost_of s.0.runs.runs;
  reads = λ s. (g.known s.1).counts.reads;
  faults = λ s. (g.known s.1).counts.faults;
}
