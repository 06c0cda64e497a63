-- Words on the steps by which a CSV text is read.
use Rattle.cp_model.specs.declared.limits.TheConstants.{PLACE_WEIGHT}
use Rattle.cp_path.specs.declared.limits.TheConstants.{LABEL_MAX}
use Rattle.std.specs.Prelude.{◌≡◌, ⊤, ℕ, suc, ◌+◌, ◌*◌, ◌<◌, ◌≤◌, ◌⊎◌, true, false, List, [], ◌∷◌, length, if◌then◌else◌, Result, Ok, Err}
use Rattle.std.specs.declared.option.Option.{Option}
use Rattle.std.specs.declared.option.Option.TheVariants.{None, Some}
use Rattle.std.specs.Borrow.{Bor}
use Rattle.std.specs.Option.{unwrap_or}
use Rattle.csv.specs.Machine.{ends_at_end}
use Rattle.csv.specs.Reading.{Ready, records_from, default_config, source_of, owned_rows_reader, owned_rows_left, reader_config, reader_state, reader_trim, is_flexible}
use Rattle.csv.specs.Records.{field_at}
use Rattle.csv.specs.declared.parser.State.{State}
use Rattle.csv.specs.declared.reader.Trim.TheVariants as trim
use Rattle.csv.specs.declared.iter.ByteRecordsIntoIter.{ByteRecordsIntoIter}
use Rattle.csv.specs.declared.error.ErrorKind.{ErrorKind}
use Rattle.csv.specs.declared.error.ErrorKind.TheVariants as kind
use Rattle.cp_model.specs.Place.{Label, Path, label_eq, option_map}
use Rattle.cp_model.specs.Subtrees.{is_there}
use Rattle.cp_model.specs.Tree.{Tree}
use Rattle.cp_tree.specs.Rows.{path_size}
use Rattle.cp_model.specs.Keyed as keyed
use Rattle.cp_model.specs.declared.row.Content.TheVariants.{Node}
use Rattle.std.specs.List.{list_any}
use Rattle.cp_sources.specs.CsvTrees.{Fields, field_under, repeated_column, is_long_label}
use Rattle.cp_sources.specs.declared.csv_fault.CsvFault.{CsvFault}
use Rattle.cp_sources.specs.declared.csv_fault.CsvFault.TheVariants.{Memory}

-- ---- records

-- the errors that a read of records over a slice may end with
abbrev pub IsIoOrMemory : ErrorKind → Type 0
IsIoOrMemory (kind.Io e) = ⊤
IsIoOrMemory kind.OutOfMemory = ⊤
IsIoOrMemory (kind.UnequalLengths pos expected len) = ⊥
IsIoOrMemory (kind.Utf8 pos err) = ⊥
IsIoOrMemory (kind.Serialize text) = ⊥
IsIoOrMemory (kind.Deserialize pos err) = ⊥

-- the bytes of a slice, which are known
abbrev pub slice_bytes : Bor (List ℕ) → Option (List ℕ)
slice_bytes s = Some s.now

-- all records of the bytes, from a state
unfoldable pub all_from : State → List ℕ → List Fields
all_from s xs = records_from default_config (length xs + 1) s xs

-- the records that are left to be read
abbrev pub records_left : ByteRecordsIntoIter (Bor (List ℕ)) → List Fields
records_left it = all_from (reader_state (owned_rows_reader it)) (unwrap_or (source_of slice_bytes (owned_rows_reader it)) [])

-- the next read gives the next record, and nothing was read of it
pub record IsOpen (it : ByteRecordsIntoIter (Bor (List ℕ))) : Type 0 where
  pub turns : 0 < owned_rows_left it
  pub plain : reader_trim (owned_rows_reader it) ≡ trim.None
  pub flexible : is_flexible (owned_rows_reader it) ≡ true
  pub config : reader_config (owned_rows_reader it) ≡ default_config
  pub ready : Ready (owned_rows_reader it)
  pub between : ends_at_end (reader_state (owned_rows_reader it)) ≡ false
  pub bytes : (y : List ℕ) × (source_of slice_bytes (owned_rows_reader it) ≡ Some y)

-- ---- refusals

-- the answer is the refusal, if there is one, or memory ran out
abbrev pub TellsRefusal : {X : Type 0} → Result X CsvFault → Option CsvFault → Type 0
TellsRefusal (Ok x) o = o ≡ None
TellsRefusal (Err e) o = (e ≡ Memory) ⊎ (o ≡ Some e)

-- ---- columns

-- the first column with this header, counted from 0
abbrev pub column_of : Label → List Label → Option ℕ
column_of k [] = None
column_of k (h ∷ hs) = if label_eq k h then Some 0 else option_map suc (column_of k hs)

-- the header of the column that names the rows
abbrev pub key_of : List Label → Option ℕ → Option Label
key_of headers None = None
key_of headers (Some i) = field_at headers i

-- the field of that column is the one under its header
abbrev pub IsKeyColumn : List Label → Option ℕ → Type 0
IsKeyColumn headers None = ⊤
IsKeyColumn headers (Some i) = (k : Label) × (field_at headers i ≡ Some k) × ((fs : Fields) → length fs ≡ length headers → field_at fs i ≡ Some (field_under k headers fs))

-- the headers are short and differ, and one of them is the key, if there is one
pub record IsColumns (headers : List Label) (place : Option ℕ) : Type 0 where
  pub short : list_any is_long_label headers ≡ false
  pub apart : repeated_column [] 1 headers ≡ None
  pub keyed : IsKeyColumn headers place

-- ---- places

-- the row is a node, and nothing stands below it under these headers, which differ
pub record IsEmptyRow (t : Tree) (row : Label) (headers : List Label) : Type 0 where
  pub before : List Label
  pub column : ℕ
  pub apart : repeated_column before column headers ≡ None
  pub free : (h : Label) → list_any (label_eq h) before ≡ false → is_there t (row ∷ h ∷ []) ≡ false
  pub node : keyed.get t (row ∷ []) ≡ Some Node

-- every place has at most two labels
abbrev pub IsShallow : Tree → Type 0
IsShallow t = (p : Path) → is_there t p ≡ true → (length p ≤ 2) × (path_size p ≤ 2 * (LABEL_MAX + 1))

-- what the fields weigh under their headers
abbrev pub fields_weight : List Label → Fields → ℕ
fields_weight [] fs = 0
fields_weight (h ∷ hs) [] = 0
fields_weight (h ∷ hs) (f ∷ fs) = PLACE_WEIGHT + length h + length f + fields_weight hs fs
