-- What a fault says of bytes that are to be one spelling and nothing more.
use Rattle.std.specs.Prelude.{ℕ, ◌<◌, ◌⊎◌, List, length, drop, ⊤}
use Rattle.cp_format.specs.Formats.{Format, Reads, Stops}
use Rattle.cp_format.specs.declared.fault.FormatFault.{FormatFault}
use Rattle.cp_format.specs.declared.fault.FormatFault.TheVariants.{BadByte, Memory}

-- a spelling ends at this offset, and more bytes come
abbrev pub GoesOn : {X : Type 0} → Format X → List ℕ → ℕ → Type 0
GoesOn {X} F bytes n = (x : X) × Reads F bytes x (drop n bytes) × (n < length bytes)

-- the fault names the offset at which the spelling stops, or the first byte after one, or memory ran out
abbrev pub FaultOf : {X : Type 0} → Format X → List ℕ → FormatFault → Type 0
FaultOf F bytes (BadByte n) = Stops F bytes n ⊎ GoesOn F bytes n
FaultOf F bytes Memory = ⊤
