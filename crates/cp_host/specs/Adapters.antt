-- What callers see of the real input, output, files and clock.
use Rattle.std.specs.Prelude.{ℕ, ◌≡◌, List, Some}
use Rattle.std.specs.declared.option.Option.{Option}
use Rattle.cp_outside.specs.FileReads.{EndsAs}
use Rattle.cp_outside.specs.declared.files.FileEnd.{FileEnd}
use Rattle.cp_host.specs.declared.input.StdinSource.{StdinSource}
use Rattle.cp_host.specs.declared.output.StdoutSink.{StdoutSink}
use Rattle.cp_host.specs.declared.files.HostFiles.{HostFiles}
use Rattle.cp_host.specs.declared.clock.HostClock.{HostClock}

-- The reader inside.
abbrev pub source_inner : {R : Type 0} → StdinSource R → R
source_inner s = s.inner

-- How many bytes the input has given.
abbrev pub source_given : {R : Type 0} → StdinSource R → ℕ
source_given s = s.given

-- How often the input has failed.
abbrev pub source_faults : {R : Type 0} → StdinSource R → ℕ
source_faults s = s.faults

-- The writer inside.
abbrev pub sink_inner : {W : Type 0} → StdoutSink W → W
sink_inner s = s.inner

-- How often the output has failed.
abbrev pub sink_faults : {W : Type 0} → StdoutSink W → ℕ
sink_faults s = s.faults

-- How many bytes the output took since it last failed.
abbrev pub sink_since : {W : Type 0} → StdoutSink W → ℕ
sink_since s = s.since_failure

-- How many files were asked for.
abbrev pub files_reads : {R : Type 0} → HostFiles R → ℕ
files_reads s = s.reads

-- How often reading a file has failed.
abbrev pub files_faults : {R : Type 0} → HostFiles R → ℕ
files_faults s = s.faults

-- How often the clock was asked.
abbrev pub clock_asked : {R : Type 0} → HostClock R → ℕ
clock_asked s = s.asked

-- How often the clock has failed.
abbrev pub clock_faults : {R : Type 0} → HostClock R → ℕ
clock_faults s = s.faults

-- An open file held these bytes, which are the known ones where they are known, and was read so.
abbrev pub ReadsAll : Option (List ℕ) → ℕ → List ℕ → FileEnd → Type 0
ReadsAll known limit bytes end = (all : List ℕ) × ((xs : List ℕ) → known ≡ Some xs → xs ≡ all) × EndsAs (Some all) limit bytes end
