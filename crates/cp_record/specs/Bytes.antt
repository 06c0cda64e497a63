-- Records as bytes, and how long an entry of a commit is.
use Rattle.std.specs.Prelude.{ℕ, ◌+◌, List, [], ◌∷◌, ◌++◌, length, sum_by}
use Rattle.std.specs.List.{flat_map}
use Rattle.std.specs.Int.{to_be_bytes, w64}
use Rattle.std.specs.declared.option.Option.{Option}
use Rattle.std.specs.declared.option.Option.TheVariants.{None, Some}
use Rattle.cp_path.specs.declared.loc.Loc.{Loc}
use Rattle.cp_path.specs.declared.value.Value.TheVariants.{Null, False, True, Whole, Text}
use Rattle.cp_path.specs.Encoding.{path_bytes, place_bytes}
use Rattle.cp_model.specs.Place.{Path, at_target, below_place, option_map}
use Rattle.cp_model.specs.Literals.{literal_rows}
use Rattle.cp_model.specs.Tree.{last_bytes}
use Rattle.cp_model.specs.declared.row.Content.{Content}
use Rattle.cp_model.specs.declared.row.Content.TheVariants.{Node, Leaf}
use Rattle.cp_model.specs.declared.literal.Literal.{Literal}
use Rattle.cp_model.specs.declared.literal.Literal.TheVariants as literal
use Rattle.cp_model.specs.declared.op.Op.{Op}
use Rattle.cp_model.specs.declared.op.Op.TheVariants.{Ins, Del, Copy}
use Rattle.cp_model.specs.declared.record.Record.{Record}
use Rattle.cp_model.specs.declared.record.RecOp.{RecOp}
use Rattle.cp_model.specs.declared.record.RecOp.TheVariants as op

-- ---- records

-- the letter of a record in ASCII
abbrev pub letter : RecOp → ℕ
letter op.I = 73
letter op.C = 67
letter op.D = 68
letter op.K = 75

-- the place that a copy came from
abbrev pub source_bytes : Option Loc → List ℕ
source_bytes None = []
source_bytes (Some q) = place_bytes q

-- the Tid in eight bytes, the letter, the path, and of a copy the source place
unfoldable pub record_bytes : Record → List ℕ
record_bytes r = to_be_bytes w64 r.tid ++ letter r.op ∷ path_bytes r.loc.path ++ source_bytes r.src

-- the bytes of records, one after another
unfoldable pub records_bytes : List Record → List ℕ
records_bytes rs = flat_map record_bytes rs

-- the record of a place below a place, and of a copy the place below the source
abbrev pub record_below : ℕ → RecOp → Path → Path → Option Loc → Record
record_below t o base below q = record { tid = t; op = o; loc = at_target (base ++ below); src = option_map (λ s. below_place s below) q }

-- ---- lengths

-- the bytes of a content that has no children
abbrev pub content_length : Content → ℕ
content_length Node = 1
content_length (Leaf Null) = 1
content_length (Leaf False) = 1
content_length (Leaf True) = 1
content_length (Leaf (Whole n)) = 9
content_length (Leaf (Text bs)) = 5 + length bs

-- the bytes of a path: their number, and each label behind its length
abbrev pub path_length : Path → ℕ
path_length p = 1 + sum_by (λ a. length a + 1) p

-- the bytes of a place: the name behind its length, and the path
abbrev pub place_length : Loc → ℕ
place_length q = 1 + length q.db + path_length q.path

-- the bytes of a place of a tree: its label behind its length, its content, and of a node the number of children
abbrev pub branch_length : Content → ℕ
branch_length Node = 5
branch_length (Leaf v) = content_length (Leaf v)

-- the bytes of a label behind its length; a root has none
abbrev pub edge_length : Path → ℕ
edge_length [] = 0
edge_length (a ∷ p) = 1 + last_bytes (a ∷ p)

-- the bytes of a tree of these rows
abbrev pub tree_length : List (Path × Content) → ℕ
tree_length rows = sum_by (λ e. edge_length e.0 + branch_length e.1) rows

-- the bytes of what is inserted: a content alone, or a tree
abbrev pub inserted_length : Literal → ℕ
inserted_length (literal.Leaf v) = content_length (Leaf v)
inserted_length (literal.Node []) = 1
inserted_length (literal.Node (e ∷ es)) = tree_length (literal_rows (literal.Node (e ∷ es)))

-- the bytes of an operation: a number for its form, and its parts
unfoldable pub op_length : Op → ℕ
op_length (Ins p a l) = 1 + path_length p.path + (1 + length a) + inserted_length l
op_length (Del a p) = 1 + path_length p.path + (1 + length a)
op_length (Copy q p) = 1 + place_length q + path_length p.path

-- the bytes of a commit: its form, the number of operations, these, the number of records, and these
unfoldable pub commit_length : List Op → List Record → ℕ
commit_length ops rs = 9 + sum_by op_length ops + length (records_bytes rs)
