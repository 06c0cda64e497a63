-- What callers see of a source, a sink and files in memory.
use Rattle.std.specs.Prelude.{ℕ, ◌-◌, ◌^◌, min, length, List, [], ◌∷◌, ◌+◌, ◌++◌, drop, None, Some, bytes_eq, if◌then◌else◌}
use Rattle.cp_outside.specs.Causes.{one_more}
use Rattle.cp_outside.specs.FileReads.{FileTable}

-- The bytes that are left, how many were given, the numbers of the reads that fail, how many reads there were, and how many of them failed.
pub record SourceState : Type 0 where
  pub left : List ℕ
  pub given : ℕ
  pub fails : List ℕ
  pub calls : ℕ
  pub faults : ℕ

-- A source before its first read.
abbrev pub new_source : List ℕ → List ℕ → SourceState
new_source bytes fails = record { left = bytes; given = 0; fails = fails; calls = 0; faults = 0 }

-- A source after a read that moved n bytes.
abbrev pub after_read : SourceState → ℕ → SourceState
after_read s n = record s { left = drop n s.left; given = s.given + n; calls = one_more s.calls }

-- A source after a read that failed.
abbrev pub after_failed_read : SourceState → SourceState
after_failed_read s = record s { calls = one_more s.calls; faults = one_more s.faults }

-- The bytes that were taken, the numbers of the writes that fail, how many writes there were, how many failed, how many were refused, and how many bytes were taken since.
pub record SinkState : Type 0 where
  pub bytes : List ℕ
  pub fails : List ℕ
  pub calls : ℕ
  pub faults : ℕ
  pub refusals : ℕ
  pub since_refusal : ℕ

-- A sink before its first write.
abbrev pub new_sink : List ℕ → SinkState
new_sink fails = record { bytes = []; fails = fails; calls = 0; faults = 0; refusals = 0; since_refusal = 0 }

-- A sink after a write that took these bytes.
abbrev pub after_write : SinkState → List ℕ → SinkState
after_write s bytes = record s { bytes = s.bytes ++ bytes; calls = one_more s.calls; since_refusal = min (s.since_refusal + length bytes) (2 ^ 64 - 1) }

-- A sink whose refusal of a write was counted.
abbrev pub after_refusal : SinkState → SinkState
after_refusal s = record s { refusals = one_more s.refusals; since_refusal = 0 }

-- A sink after a write that failed.
abbrev pub after_failed_write : SinkState → SinkState
after_failed_write s = after_refusal (record s { calls = one_more s.calls; faults = one_more s.faults })

-- A sink after a write for which it found no memory.
abbrev pub after_refused_write : SinkState → SinkState
after_refused_write s = after_refusal (record s { calls = one_more s.calls })

-- A file in memory: the name that it is read by, and all of it.
pub record FileState : Type 0 where
  pub name : List ℕ
  pub bytes : List ℕ

-- What a name names among these files: the bytes of the first file that has it.
abbrev pub file_named : List FileState → FileTable
file_named [] name = None
file_named (file ∷ files) name = if bytes_eq file.name name then Some file.bytes else file_named files name

-- The files, the numbers of the reads that fail, how many reads there were, and how many of them failed.
pub record FilesState : Type 0 where
  pub files : List FileState
  pub fails : List ℕ
  pub calls : ℕ
  pub faults : ℕ

-- Files before the first read.
abbrev pub new_files : List FileState → List ℕ → FilesState
new_files files fails = record { files = files; fails = fails; calls = 0; faults = 0 }

-- Files after a read that did not fail, also where it ran out of memory.
abbrev pub after_file : FilesState → FilesState
after_file s = record s { calls = one_more s.calls }

-- Files after a read that failed.
abbrev pub after_failed_file : FilesState → FilesState
after_failed_file s = record s { calls = one_more s.calls; faults = one_more s.faults }
