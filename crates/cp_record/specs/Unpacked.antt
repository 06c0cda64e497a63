-- The records that bytes hold, read from the first to the last.
use Rattle.std.specs.Prelude.{ℕ, zero, suc, ◌≡◌, ◌==◌, List, [], ◌∷◌, length, take, drop, if◌then◌else◌}
use Rattle.std.specs.List.{AllByRecursion}
use Rattle.std.specs.Int.{from_be_bytes, w64}
use Rattle.std.specs.declared.option.Option.{Option}
use Rattle.std.specs.declared.option.Option.TheVariants.{None, Some}
use Rattle.cp_path.specs.declared.loc.Loc.{Loc}
use Rattle.cp_model.specs.Place.{Path, at_target}
use Rattle.cp_model.specs.declared.record.Record.{Record}
use Rattle.cp_model.specs.declared.record.RecOp.{RecOp}
use Rattle.cp_model.specs.declared.record.RecOp.TheVariants as op
use Rattle.cp_record.specs.Bytes.{record_bytes, records_bytes}
use Rattle.cp_record.specs.Kept.{IsPackable}

-- the text behind its length, and what follows it
abbrev pub text_in : List ℕ → List ℕ × List ℕ
text_in [] = ([], [])
text_in (n ∷ bytes) = (take n bytes, drop n bytes)

-- so many labels, and what follows them
abbrev pub labels_in : ℕ → List ℕ → Path × List ℕ
labels_in zero bytes = ([], bytes)
labels_in (suc n) bytes = let more = labels_in n (text_in bytes).1 in ((text_in bytes).0 ∷ more.0, more.1)

-- the path behind the number of its labels, and what follows it
abbrev pub path_in : List ℕ → Path × List ℕ
path_in [] = ([], [])
path_in (n ∷ bytes) = labels_in n bytes

-- the place of a name and a path, and what follows it
abbrev pub place_in : List ℕ → Loc × List ℕ
place_in bytes = let path = path_in (text_in bytes).1 in (record { db = (text_in bytes).0; path = path.0 }, path.1)

-- of a copy the place that it came from, and what follows it
abbrev pub source_in : RecOp → List ℕ → Option Loc × List ℕ
source_in op.I bytes = (None, bytes)
source_in op.C bytes = (Some (place_in bytes).0, (place_in bytes).1)
source_in op.D bytes = (None, bytes)
source_in op.K bytes = (None, bytes)

-- the operation of a letter
abbrev pub op_in : ℕ → RecOp
op_in n = if n == 73 then op.I else (if n == 67 then op.C else (if n == 68 then op.D else op.K))

-- the record of this Tid and operation, whose places are in the bytes, and what follows it
abbrev pub record_with : ℕ → RecOp → List ℕ → Record × List ℕ
record_with t o bytes =
    let path = path_in bytes in
    let source = source_in o path.1 in
    (record { tid = t; op = o; loc = at_target path.0; src = source.0 }, source.1)

-- the record of this Tid behind its letter, and what follows it
abbrev pub record_behind : ℕ → List ℕ → Record × List ℕ
record_behind t [] = record_with t op.K []
record_behind t (n ∷ bytes) = record_with t (op_in n) bytes

-- the first record, and what follows it
unfoldable pub record_in : List ℕ → Record × List ℕ
record_in bytes = record_behind (from_be_bytes w64 (take 8 bytes)) (drop 8 bytes)

-- the records of bytes that are no more than so many
abbrev pub records_within : ℕ → List ℕ → List Record
records_within zero bytes = []
records_within (suc n) [] = []
records_within (suc n) (b ∷ bytes) = let first = record_in (b ∷ bytes) in first.0 ∷ records_within n first.1

-- the records of bytes
unfoldable pub records_in : List ℕ → List Record
records_in bytes = records_within (length bytes) bytes

-- the bytes are those of the records in them, and each of these can be kept
pub record IsPacked (bytes : List ℕ) : Type 0 where
  pub is : bytes ≡ records_bytes (records_in bytes)
  pub kept : AllByRecursion IsPackable (records_in bytes)

-- the bytes are those of the one record in them, which can be kept
pub record IsPackedOne (bytes : List ℕ) : Type 0 where
  pub is : bytes ≡ record_bytes (record_in bytes).0
  pub kept : IsPackable (record_in bytes).0
