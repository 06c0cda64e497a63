-- What a statement spent outside the disk: the files that were read for it, and how often the clock was asked.
use Rattle.std.specs.Prelude.{ℕ, ◌+◌, ◌≡◌, ◌⊎◌, Result, Ok, Err}
use Rattle.cp_workspace.specs.Clocks.{KnownClock, HasAsked}
use Rattle.cp_workspace.specs.Files.{KnownFiles, HasRead}
use Rattle.cp_workspace.specs.declared.fault.WorkspaceFault.{WorkspaceFault}
use Rattle.cp_workspace.specs.declared.fault.WorkspaceFault.TheVariants.{File, Disk, Clock, Memory}

-- so many files were read, and so often was the clock asked
pub record HasSpent (reads asks : ℕ) (fb fa : KnownFiles) (kb ka : KnownClock) : Type 0 where
  pub read : HasRead fb fa reads
  pub asked : HasAsked kb ka asks

-- A call that is to read so many files and to ask the clock so often did so. A file fails only in one that reads a file, the clock in one that asks it, and the disk in either.
-- Where memory ran out, that was before anything was spent or after all was.
abbrev pub Spends : {T : Type 0} → ℕ → ℕ → KnownFiles → KnownFiles → KnownClock → KnownClock
    → Result T WorkspaceFault → Type 0
Spends reads asks fb fa kb ka (Ok x) = HasSpent reads asks fb fa kb ka
Spends reads asks fb fa kb ka (Err File) = (reads ≡ 1) × HasSpent reads asks fb fa kb ka
Spends reads asks fb fa kb ka (Err Disk) = (reads + asks ≡ 1) × HasSpent reads asks fb fa kb ka
Spends reads asks fb fa kb ka (Err Clock) = (asks ≡ 1) × HasSpent reads asks fb fa kb ka
Spends reads asks fb fa kb ka (Err Memory) =
    HasSpent 0 0 fb fa kb ka ⊎ HasSpent reads asks fb fa kb ka
