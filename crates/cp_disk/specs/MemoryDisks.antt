-- What callers see of the disks in memory.
use Rattle.std.specs.Prelude.{true, ℕ, ◌≡◌, ◌≤◌, ◌<◌, ◌⊎◌, ◌↔◌, List, [], ◌∷◌, ◌++◌, None, Some, Contains, Result, IsErrOf, OnOk}
use Rattle.std.specs.declared.option.Option.{Option}
use Rattle.cp_outside.specs.Causes.{one_more}
use Rattle.cp_disk.specs.Images.{FileState, DiskCall, writes, cuts, syncs, file_after, view_after}
use Rattle.cp_disk.specs.Views.{View, KnownDisk, Counts}
use Rattle.cp_disk.specs.declared.disk.DiskFault.{DiskFault}
use Rattle.cp_disk.specs.declared.disk.DiskFault.TheVariants.{Failed, Memory}
use Rattle.cp_disk.specs.declared.limits.TheConstants.{DISK_MAX}

-- A disk that never fails.
pub record SureState : Type 0 where
  -- The bytes that it began with.
  pub first : List ℕ
  -- The calls that have changed it or made it durable, oldest first.
  pub calls : List DiskCall
  -- How often it was read.
  pub reads : ℕ
  -- How often it ran out of memory.
  pub wants : ℕ

-- A disk with these bytes, before its first call.
abbrev pub new_sure : List ℕ → SureState
new_sure bytes = record { first = bytes; calls = []; reads = 0; wants = 0 }

-- The file on a disk that never fails, with what was done to it since its last sync.
abbrev pub sure_file : SureState → FileState
sure_file s = file_after s.first s.calls

-- The same as contracts see it.
abbrev pub sure_view : SureState → View
sure_view s = view_after s.first s.calls

-- What a disk that never fails counts.
abbrev pub sure_counts : SureState → Counts
sure_counts s = record { faults = 0; reads = s.reads; wants = s.wants }

-- All that is known of it.
abbrev pub sure_disk : SureState → KnownDisk
sure_disk s = record { known = true; view = sure_view s; counts = sure_counts s }

-- A disk after a write.
abbrev pub after_write : SureState → ℕ → List ℕ → SureState
after_write s at bytes = record s { calls = s.calls ++ writes at bytes ∷ [] }

-- A disk after a cut.
abbrev pub after_cut : SureState → ℕ → SureState
after_cut s size = record s { calls = s.calls ++ cuts size ∷ [] }

-- A disk after a read.
abbrev pub after_read : SureState → SureState
after_read s = record s { reads = one_more s.reads }

-- A disk after a call for which it found no memory.
abbrev pub after_want : SureState → SureState
after_want s = record s { wants = one_more s.wants }

-- The content that is kept is that of the file after these calls, which was never too long.
pub record IsKept (first : List ℕ) (calls : List DiskCall) (content : List ℕ) : Type 0 where
  pub same : content ≡ (file_after first calls).content
  pub few : (file_after first calls).greatest ≤ DISK_MAX

-- Nothing was changed since the last sync.
abbrev pub IsQuiet : List DiskCall → Type 0
IsQuiet calls = (calls ≡ []) ⊎ ((before : List DiskCall) × (calls ≡ before ++ syncs ∷ []))

-- A sync comes after these calls, or they have ended with one.
abbrev pub EndsInSync : List DiskCall → List DiskCall → Type 0
EndsInSync old new = (new ≡ old ++ syncs ∷ []) ⊎ ((new ≡ old) × IsQuiet old)

-- A disk before a sync and after it; of two in a row it takes no note of the second.
abbrev pub IsSynced : SureState → SureState → Type 0
IsSynced old new = (calls : List DiskCall) × EndsInSync old.calls calls × (new ≡ record old { calls = calls })

-- A disk that fails at some calls.
pub record MemState : Type 0 where
  -- The disk inside.
  pub disk : SureState
  -- The numbers of the calls that fail.
  pub fails : List ℕ
  -- After how many calls all fail, where there is such a number.
  pub fuse : Option ℕ
  -- How many calls there were.
  pub called : ℕ
  -- How many of them failed.
  pub faults : ℕ

-- A disk with these bytes, before its first call.
abbrev pub new_mem : List ℕ → List ℕ → Option ℕ → MemState
new_mem bytes fails fuse = record { disk = new_sure bytes; fails = fails; fuse = fuse; called = 0; faults = 0 }

-- The file on a disk that fails at some calls.
abbrev pub mem_file : MemState → FileState
mem_file s = sure_file s.disk

-- The same as contracts see it.
abbrev pub mem_view : MemState → View
mem_view s = sure_view s.disk

-- What a disk that fails at some calls counts.
abbrev pub mem_counts : MemState → Counts
mem_counts s = record { faults = s.faults; reads = s.disk.reads; wants = s.disk.wants }

-- All that is known of it.
abbrev pub mem_disk : MemState → KnownDisk
mem_disk s = record { known = true; view = mem_view s; counts = mem_counts s }

-- The call of this number comes after those that the fuse lets pass.
abbrev pub IsBurnt : Option ℕ → ℕ → Type 0
IsBurnt None number = ⊥
IsBurnt (Some passes) number = passes < number

-- The next call fails: its number is listed, or the fuse is burnt.
abbrev pub FailsNext : MemState → Type 0
FailsNext s = Contains s.fails (one_more s.called) ⊎ IsBurnt s.fuse (one_more s.called)

-- A disk after a call that failed.
abbrev pub after_failure : MemState → MemState
after_failure s = record s { called = one_more s.called; faults = one_more s.faults }

-- A disk after a call that left the disk inside so.
abbrev pub after_passing : MemState → SureState → MemState
after_passing s disk = record s { disk = disk; called = one_more s.called }

-- A disk whose next call is a read, which counts whatever it answers.
abbrev pub before_read : MemState → MemState
before_read s = record s { disk = after_read s.disk }

-- A call fails exactly where its number is one that fails, and changes nothing then; else it is done, or finds no memory.
pub record Ends {T : Type 0} (old new : MemState) (Done : SureState → Type 0) (result : Result T DiskFault) : Type 0 where
  pub listed : IsErrOf result Failed ↔ FailsNext old
  pub failed : IsErrOf result Failed → new ≡ after_failure old
  pub done : OnOk result ((disk : SureState) × Done disk × (new ≡ after_passing old disk))
  pub memory : IsErrOf result Memory → new ≡ after_passing old (after_want old.disk)
