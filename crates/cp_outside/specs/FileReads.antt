-- What a read of a file gives, and which of its errors blame the file.
use Rattle.std.specs.Prelude.{ℕ, ◌≡◌, ◌≤◌, ◌<◌, List, [], length, take, None, Some}
use Rattle.std.specs.declared.option.Option.{Option}
use Rattle.cp_outside.specs.declared.files.FileEnd.{FileEnd}
use Rattle.cp_outside.specs.declared.files.FileEnd.TheVariants.{Whole, TooLong, Missing}

-- What each name names: the bytes of a file, or none where there is no such file.
abbrev pub FileTable : Type 0
FileTable = List ℕ → Option (List ℕ)

-- What a read that keeps at most `limit` bytes gives of this file, which may be none: all of it; or its first bytes, where more follow; or that there is none.
abbrev pub EndsAs : Option (List ℕ) → ℕ → List ℕ → FileEnd → Type 0
EndsAs file limit bytes Whole = (file ≡ Some bytes) × (length bytes ≤ limit)
EndsAs file limit bytes TooLong = (all : List ℕ) × (file ≡ Some all) × (limit < length all) × (bytes ≡ take limit all)
EndsAs file limit bytes Missing = (file ≡ None) × (bytes ≡ [])

-- Some file was found so, which is the told one where the files are told.
abbrev pub ReadsFile : Option FileTable → List ℕ → ℕ → List ℕ → FileEnd → Type 0
ReadsFile files name limit bytes end = (file : Option (List ℕ)) × ((f : FileTable) → files ≡ Some f → f name ≡ file) × EndsAs file limit bytes end
