-- The log of a file.
use Rattle.std.specs.Prelude.{ℕ, ◌≡◌, false, List, Result, Ok, Err, ⊤}
use Rattle.cp_model.specs.History.{log_of}
use Rattle.cp_model.specs.History.{Entry as History}
use Rattle.cp_model.specs.declared.answer.LogLine.{LogLine}
use Rattle.cp_frame.specs.Stands.{IsTold, OpensAndReplays}
use Rattle.cp_frame.specs.Stops.{IsNot}
use Rattle.cp_db.specs.declared.fault.OpenFault.{OpenFault}
use Rattle.cp_db.specs.declared.fault.OpenFault.TheVariants.{NoStore, Disk, Memory}

-- the lines are the log of the history that the file tells; of a file that doesn't open, or of which the walk over all frames tells none, the offset is told at which it stops
abbrev pub LogsAs : List ℕ → Result (List LogLine) OpenFault → Type 0
LogsAs c (Ok lines) = OpensAndReplays c × ((h : List History) → IsTold false h c → lines ≡ log_of h)
LogsAs c (Err (NoStore at)) = IsNot OpensAndReplays c at
LogsAs c (Err Disk) = ⊤
LogsAs c (Err Memory) = ⊤
