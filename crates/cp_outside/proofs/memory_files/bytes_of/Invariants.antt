use Rattle.std.proofs.Common.{◌≡◌, drop}
use Rattle.cp_outside.specs.MemoryStates.{file_named}
use Rattle.cp_outside.proofs.memory_files.bytes_of.Given as goal

-- no file that was passed has this name
abbrev pub invariant-loop-file : goal.invariant-loop-file
invariant-loop-file l = file_named l.files l.name ≡ file_named (drop l.file-index l.files) l.name
