-- What is known of the files of a case.
use Rattle.std.specs.Prelude.{ℕ, None, Some}
use Rattle.std.specs.declared.option.Option.{Option}
use Rattle.cp_outside.specs.FileReads.{FileTable}
use Rattle.cp_outside.specs.MemoryStates.{file_named}
use Rattle.cp_host.specs.Adapters.{files_reads, files_faults}
use Rattle.cp_calls.specs.declared.files.CaseFiles.{CaseFiles}
use Rattle.cp_calls.specs.declared.files.CaseFiles.TheVariants.{Named, Real}

-- What each name names, where the case says.
abbrev pub table_of : {R : Type 0} → CaseFiles R → Option FileTable
table_of (Named s) = Some (file_named s.files)
table_of (Real h) = None

-- How many files were asked for.
abbrev pub reads_of : {R : Type 0} → CaseFiles R → ℕ
reads_of (Named s) = s.calls
reads_of (Real h) = files_reads h

-- How often reading a file has failed.
abbrev pub faults_of : {R : Type 0} → CaseFiles R → ℕ
faults_of (Named s) = s.faults
faults_of (Real h) = files_faults h
