-- What is known of files at one moment, and which of them a call reads.
use Rattle.std.specs.Prelude.{ℕ, zero, suc, ◌≡◌, ◌⊎◌, List, [], ◌∷◌, Result, Ok, Err, ⊤}
use Rattle.std.specs.declared.option.Option.{Option}
use Rattle.std.specs.declared.option.Option.TheVariants.{Some}
use Rattle.cp_outside.specs.Causes.{Accounts, one_more}
use Rattle.cp_outside.specs.FileReads.{FileTable}
use Rattle.cp_outside.specs.declared.files.Files as files

-- files: what each name names, where that is known; how many files were asked for; how often one failed
pub record KnownFiles : Type 0 where
  pub found : Option FileTable
  pub reads : ℕ
  pub faults : ℕ

-- of the object that a call is given
abbrev pub known_files : {F : Type 0} → files.Ghosts F → F → KnownFiles
known_files g f = record { found = g.found f; reads = g.reads f; faults = g.faults f }

-- a count of reads, after so many more
abbrev pub more : ℕ → ℕ → ℕ
more n zero = n
more n (suc k) = one_more (more n k)

-- so many files were read
abbrev pub HasRead : KnownFiles → KnownFiles → ℕ → Type 0
HasRead before now k = now.reads ≡ more before.reads k

-- These are the files, where it is known what each name names.
abbrev pub IsFound : KnownFiles → FileTable → Type 0
IsFound known table = (files : FileTable) → known.found ≡ Some files → table ≡ files

-- Each of these is.
abbrev pub AreFound : KnownFiles → List FileTable → Type 0
AreFound known [] = ⊤
AreFound known (t ∷ ts) = IsFound known t × AreFound known ts

-- ---- calls that may fail at a file

-- The files are what they were, and are blamed only where their count of faults rose, which stays where the call gave no error.
pub record UsesFiles {T E : Type 0} (Blames : E → Type 0) (before now : KnownFiles)
    (result : Result T E) : Type 0 where
  pub same : now.found ≡ before.found
  pub account : Accounts Blames before.faults now.faults result

-- So many files were to be read by a call that gave this error: they were, or none was. Where a file is blamed it was the one that was to be read.
pub record ReadsBefore {E : Type 0} (Blames : E → Type 0) (n : ℕ) (before now : KnownFiles)
    (error : E) : Type 0 where
  pub either : HasRead before now 0 ⊎ HasRead before now n
  pub blamed : Blames error → (n ≡ 1) × HasRead before now 1

-- So many files were read, or were to be read where the call gave an error.
abbrev pub Reads : {T E : Type 0} → (E → Type 0) → ℕ → KnownFiles → KnownFiles → Result T E → Type 0
Reads Blames n before now (Ok x) = HasRead before now n
Reads Blames n before now (Err e) = ReadsBefore Blames n before now e

-- So many files were read; or none, where the call gave an error.
abbrev pub ReadsOrNone : {T E : Type 0} → ℕ → KnownFiles → KnownFiles → Result T E → Type 0
ReadsOrNone n before now (Ok x) = HasRead before now n
ReadsOrNone n before now (Err e) = HasRead before now 0 ⊎ HasRead before now n
