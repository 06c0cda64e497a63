-- The last lines of calls that end early.
use Rattle.std.specs.Prelude.{ℕ, List, ◌++◌, codes, decimal}

-- the last line where the input failed
abbrev pub input_line : List ℕ
input_line = codes "error: input\n"

-- the last line where a file failed
abbrev pub file_line : List ℕ
file_line = codes "error: file\n"

-- the last line where the disk failed
abbrev pub disk_line : List ℕ
disk_line = codes "error: disk\n"

-- the last line where the store is none, from this offset on
abbrev pub no_store_line : ℕ → List ℕ
no_store_line at = codes "error: not a store at " ++ (decimal at ++ codes "\n")

-- the last line where memory ran out
abbrev pub memory_line : List ℕ
memory_line = codes "error: memory\n"

-- the last line where too much input came
abbrev pub too_long_line : List ℕ
too_long_line = codes "error: input too long\n"

-- the last line where the clock failed
abbrev pub clock_line : List ℕ
clock_line = codes "error: clock\n"
