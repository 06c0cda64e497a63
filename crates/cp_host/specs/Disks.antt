-- What callers see of a real file as a disk: what it counts, and nothing of its content.
use Rattle.std.specs.Prelude.{false, [], Result, Ok, Err, ⊤}
use Rattle.cp_outside.specs.Causes.{one_more}
use Rattle.cp_disk.specs.Views.{View, KnownDisk, Counts}
use Rattle.cp_disk.specs.declared.disk.DiskFault.{DiskFault}
use Rattle.cp_disk.specs.declared.disk.DiskFault.TheVariants.{Failed, Memory}
use Rattle.cp_host.specs.declared.access.Access.{Access}
use Rattle.cp_host.specs.declared.disk.FileDisk.{FileDisk}

-- What a disk of a real file may do with it.
abbrev pub disk_access : {R : Type 0} → FileDisk R → Access
disk_access d = d.file.access

-- What a disk of a real file counts.
abbrev pub disk_counts : {R : Type 0} → FileDisk R → Counts
disk_counts d = record { faults = d.faults; reads = d.reads; wants = d.wants }

-- Nothing was counted yet.
abbrev pub no_counts : Counts
no_counts = record { faults = 0; reads = 0; wants = 0 }

-- The counts after one read more.
abbrev pub after_read : Counts → Counts
after_read c = record c { reads = one_more c.reads }

-- The counts after a call that answered this: one fault more, one want more, or the same.
abbrev pub after_answer : {T : Type 0} → Result T DiskFault → Counts → Counts
after_answer (Ok value) c = c
after_answer (Err Failed) c = record c { faults = one_more c.faults }
after_answer (Err Memory) c = record c { wants = one_more c.wants }

-- What is told of a file of which nothing is known: a crash may leave anything.
abbrev pub untold_view : View
untold_view = record { content = []; images = λ _. ⊤; since = λ _ _. ⊤; moment = 0 }

-- All that is known of a disk of a real file: its counts.
abbrev pub known_file_disk : {R : Type 0} → FileDisk R → KnownDisk
known_file_disk d = record { known = false; view = untold_view; counts = disk_counts d }
