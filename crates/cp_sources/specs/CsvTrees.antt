-- The tree that a CSV text is, or why it is none.
use Rattle.cp_model.specs.declared.limits.TheConstants.{NODES_MAX, WEIGHT_MAX}
use Rattle.cp_path.specs.declared.limits.TheConstants.{LABEL_MAX, TEXT_MAX}
use Rattle.std.specs.Prelude.{ℕ, ◌+◌, ◌==◌, Bool, true, not, List, [], ◌∷◌, length, nat_lt, decimal, if◌then◌else◌, Result, Ok, Err}
use Rattle.std.specs.List.{list_all, list_any}
use Rattle.std.specs.Str.{is_utf8}
use Rattle.std.specs.declared.option.Option.{Option}
use Rattle.std.specs.declared.option.Option.TheVariants.{None, Some}
use Rattle.csv.specs.Reading.{records, default_config, strip_bom}
use Rattle.cp_model.specs.Cases.{unless}
use Rattle.cp_path.specs.declared.value.Value.TheVariants.{Text}
use Rattle.cp_model.specs.declared.row.Content.TheVariants.{Node, Leaf}
use Rattle.cp_model.specs.Place.{Label, label_eq, option_map, or_else}
use Rattle.cp_model.specs.Keyed.{insert, len}
use Rattle.cp_model.specs.Subtrees.{is_there}
use Rattle.cp_model.specs.Tree.{Tree, weight}
use Rattle.cp_tree.specs.Rows.{single}
use Rattle.cp_sources.specs.declared.csv_fault.CsvFault.{CsvFault}
use Rattle.cp_sources.specs.declared.csv_fault.CsvFault.TheVariants.{NoHeader, NotUtf8, LabelTooLong, RepeatedHeader, NoColumn, Ragged, TextTooLong, RepeatedKey, TooMany, TooBig}

-- a record is the bytes of each of its fields
abbrev pub Fields : Type 0
Fields = List (List ℕ)

-- more bytes than a label may have
abbrev pub is_long_label : List ℕ → Bool
is_long_label a = nat_lt LABEL_MAX (length a)

-- more bytes than a text value may have
abbrev pub is_long_text : List ℕ → Bool
is_long_text f = nat_lt TEXT_MAX (length f)

-- ---- the header

-- the first of these columns, counted on from n, whose header stood before
abbrev pub repeated_column : List Label → ℕ → List Label → Option ℕ
repeated_column before n [] = None
repeated_column before n (h ∷ hs) = if list_any (label_eq h) before then Some n else repeated_column (h ∷ before) (n + 1) hs

-- the key, if there is one, is a header
abbrev pub has_key : Option Label → List Label → Bool
has_key None headers = true
has_key (Some k) headers = list_any (label_eq k) headers

-- why the header is refused, if it is
abbrev pub header_fault : Fields → Option Label → Option CsvFault
header_fault headers key =
    if not (list_all is_utf8 headers) then Some (NotUtf8 0)
    else if list_any is_long_label headers then Some LabelTooLong
    else or_else (option_map RepeatedHeader (repeated_column [] 1 headers)) (if has_key key headers then None else Some NoColumn)

-- ---- a row

-- the field under the header k
abbrev pub field_under : Label → List Label → Fields → List ℕ
field_under k [] fs = []
field_under k (h ∷ hs) [] = []
field_under k (h ∷ hs) (f ∷ fs) = if label_eq k h then f else field_under k hs fs

-- the label of the row n: the text of its key field, or else its number
abbrev pub row_label : List Label → Option Label → ℕ → Fields → Label
row_label headers None n fields = decimal n
row_label headers (Some k) n fields = field_under k headers fields

-- why the row is refused for what it is, if it is
abbrev pub field_fault : List Label → Option Label → ℕ → Fields → Option CsvFault
field_fault headers key n fields =
    if not (length fields == length headers) then Some (Ragged n)
    else if not (list_all is_utf8 fields) then Some (NotUtf8 n)
    else if list_any is_long_text fields then Some TextTooLong
    else if is_long_label (row_label headers key n fields) then Some LabelTooLong
    else None

-- the tree in which each field is a text leaf under its header, below the row
abbrev pub with_fields : Label → List Label → Fields → Tree → Tree
with_fields row [] fs t = t
with_fields row (h ∷ hs) [] t = t
with_fields row (h ∷ hs) (f ∷ fs) t = with_fields row hs fs (insert t (row ∷ h ∷ []) (Leaf (Text f)))

-- the tree with the row, a node below the root, and with its fields
abbrev pub with_row : Label → List Label → Fields → Tree → Tree
with_row row headers fields t = with_fields row headers fields (insert t (row ∷ []) Node)

-- why the row is refused for what the tree would be with it, if it is
abbrev pub tree_fault : Label → List Label → ℕ → Fields → Tree → Option CsvFault
tree_fault row headers n fields t =
    if is_there t (row ∷ []) then Some (RepeatedKey n)
    else if nat_lt NODES_MAX (len (with_row row headers fields t)) then Some TooMany
    else if nat_lt WEIGHT_MAX (weight (with_row row headers fields t)) then Some TooBig
    else None

-- why the row n is refused, if it is
abbrev pub row_fault : List Label → Option Label → ℕ → Fields → Tree → Option CsvFault
row_fault headers key n fields t =
    or_else (field_fault headers key n fields) (tree_fault (row_label headers key n fields) headers n fields t)

-- ---- the text

-- the rows, counted on from n, put into the tree one after the other
abbrev pub rows_tree : List Label → Option Label → ℕ → List Fields → Tree → Result Tree CsvFault
rows_tree headers key n [] t = Ok t
rows_tree headers key n (r ∷ rs) t =
    unless (row_fault headers key n r t) (rows_tree headers key (n + 1) rs (with_row (row_label headers key n r) headers r t))

-- the first record is the header, and each later one a row
abbrev pub records_tree : List Fields → Option Label → Result Tree CsvFault
records_tree [] key = Err NoHeader
records_tree (h ∷ rows) key = unless (header_fault h key) (rows_tree h key 1 rows (single Node))

-- the tree of a CSV text, its rows named by the key column, or else numbered from 1
unfoldable pub csv_tree : List ℕ → Option Label → Result Tree CsvFault
csv_tree bytes key = records_tree (records default_config (strip_bom bytes)) key
