-- What a fault says of the bytes.
use Rattle.std.specs.Prelude.{ℕ, List, ⊤}
use Rattle.cp_format.specs.declared.fault.FormatFault.{FormatFault}
use Rattle.cp_format.specs.declared.fault.FormatFault.TheVariants.{BadByte, Memory}
use Rattle.cp_format.specs.Formats.{Format, FailsAt}

-- the fault names the offset at which the spelling stops, or memory ran out
abbrev pub FaultAt : {X : Type 0} → Format X → List ℕ → ℕ → FormatFault → Type 0
FaultAt F bytes at (BadByte n) = FailsAt F bytes at n
FaultAt F bytes at Memory = ⊤
