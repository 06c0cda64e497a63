-- The laws that make what is read exact, and how long operations are.
use Rattle.std.specs.Prelude.{ℕ, ◌≡◌, ◌++◌, List, length}
use Rattle.cp_model.specs.declared.record.Record.{Record}
use Rattle.cp_model.specs.declared.op.Op.{Op}
use Rattle.cp_record.specs.Bytes.{op_length, record_bytes}
use Rattle.cp_format.specs.Operations.{IsShort, op_bytes}
use Rattle.cp_format.specs.Spelled.{IsSpelled}

-- the spelling of no record begins that of another
abbrev pub NoneBeginsAnother : Type 0
NoneBeginsAnother = (r q : Record) (xs ys : List ℕ) → IsSpelled r → IsSpelled q → record_bytes r ++ xs ≡ record_bytes q ++ ys → (r ≡ q) × (xs ≡ ys)

-- a short operation has as many bytes as a commit counts for it
abbrev pub LengthsAreCounted : Type 0
LengthsAreCounted = (o : Op) → IsShort o → length (op_bytes o) ≡ op_length o
