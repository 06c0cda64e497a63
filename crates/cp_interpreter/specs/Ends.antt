-- How a call ends, by the number of its status.
use Rattle.std.specs.Prelude.{ℕ}
use Rattle.cp_interpreter.specs.declared.end.End.{End}
use Rattle.cp_interpreter.specs.declared.end.End.TheVariants.{Done, Refused, Usage, Input, File, Output, Disk, NoStore, Memory, TooLong, Clock}

-- the number of the exit status
abbrev pub code_of : End → ℕ
code_of Done = 0
code_of Refused = 1
code_of Usage = 2
code_of Input = 3
code_of File = 3
code_of Output = 4
code_of Disk = 5
code_of (NoStore at) = 6
code_of Memory = 7
code_of TooLong = 8
code_of Clock = 9
