-- The laws of trees, operations and commits: each tree is spelled in one way, what is read is legal, what is legal is read back, and how long it is.
use Rattle.std.specs.Prelude.{ℕ, ◌+◌, ◌≡◌, ◌≤◌, ◌<◌, Bool, true, false, List, length, map, sum_by, take}
use Rattle.std.specs.declared.option.Option.TheVariants.{Some}
use Rattle.cp_path.specs.Place.{over_limit}
use Rattle.cp_path.specs.Text.{is_name}
use Rattle.cp_model.specs.History.{IsLiteral, IsWritten}
use Rattle.cp_model.specs.Keyed.{from_entries}
use Rattle.cp_model.specs.Place.{Label, Path}
use Rattle.cp_model.specs.Subtrees.{is_there}
use Rattle.cp_model.specs.Tree.{IsTree, weight_of}
use Rattle.cp_record.specs.Bytes.{commit_length, tree_length}
use Rattle.cp_format.specs.Formats.{AllHold}
use Rattle.cp_frame.specs.Trees.{Written, HasParts, comes_after, decided_at, rows_of, tree_bytes, tree_checks}
use Rattle.cp_frame.specs.Rooms.{FitsIn, whole_room}
use Rattle.cp_frame.specs.Operations.{IsFit, WrittenOp, op_of, written_checks}
use Rattle.cp_frame.specs.Entries.{Batch, IsBatch, batch_bytes}

-- two written trees with the same rows are one
abbrev pub RowsTellTrees : Type 0
RowsTellTrees = (s t : Written) → rows_of s ≡ rows_of t → s ≡ t

-- a written tree that fits in the room of T, and whose labels rise, has the rows of a tree
abbrev pub WrittenTreesAreTrees : Type 0
WrittenTreesAreTrees = (t : Written) → FitsIn (whole_room 1) t → AllHold (tree_checks t) → IsLiteral (rows_of t) × IsTree (from_entries (rows_of t))

-- a tree that has its parts fits in the room of T, and its labels rise
abbrev pub TreesAreSpelled : Type 0
TreesAreSpelled = (t : Written) → HasParts t → IsLiteral (rows_of t) → IsTree (from_entries (rows_of t)) → FitsIn (whole_room 1) t × AllHold (tree_checks t)

-- each place of the tree is within the limits of places under this name
abbrev pub ArePlacesUnder : List ℕ → Written → Type 0
ArePlacesUnder n t = (p : Path) → is_there (from_entries (rows_of t)) p ≡ true → over_limit (record { db = n; path = p }) ≡ false

-- a written tree that fits in the room of a name, and whose labels rise, has the rows of a tree, and its places are within the limits under this name
abbrev pub SourcesAreLegal : Type 0
SourcesAreLegal =
    (n : List ℕ) (t : Written) → is_name n ≡ true → FitsIn (whole_room (length n)) t → AllHold (tree_checks t)
    → IsLiteral (rows_of t) × IsTree (from_entries (rows_of t)) × ArePlacesUnder n t

-- a tree that has its parts, and whose places are within the limits under a name, fits in the room of the name, and its labels rise
abbrev pub SourcesAreSpelled : Type 0
SourcesAreSpelled =
    (n : List ℕ) (t : Written) → is_name n ≡ true → HasParts t → IsLiteral (rows_of t) → IsTree (from_entries (rows_of t))
    → ArePlacesUnder n t → FitsIn (whole_room (length n)) t × AllHold (tree_checks t)

-- an operation that was read can be written as a statement
abbrev pub OpsAreWritten : Type 0
OpsAreWritten = (w : WrittenOp) → IsFit w → AllHold (written_checks w) → IsWritten (op_of w)

-- a label that doesn't come after another is judged at the first byte after which none of its length does that begins so, whatever its bytes are
abbrev pub LabelsAreJudgedAtOnce : Type 0
LabelsAreJudgedAtOnce =
    (b a : Label) → comes_after (Some b) a ≡ false
    → ((c : Label) → length c ≡ length a → take (decided_at b a) c ≡ take (decided_at b a) a → comes_after (Some b) c ≡ false)
    × ((n : ℕ) → n < decided_at b a → (c : Label) × (length c ≡ length a) × (take n c ≡ take n a) × (comes_after (Some b) c ≡ true))

-- a tree has as many bytes as are counted for its rows
abbrev pub TreesAreMeasured : Type 0
TreesAreMeasured = (t : Written) → HasParts t → length (tree_bytes t) ≡ tree_length (rows_of t)

-- a tree has no more bytes than it weighs
abbrev pub TreesAreLight : Type 0
TreesAreLight = (t : Written) → HasParts t → length (tree_bytes t) ≤ sum_by weight_of (rows_of t)

-- the operations and the records of a commit take as many bytes as a commit counts for them
abbrev pub BatchesAreCounted : Type 0
BatchesAreCounted = (trees : Bool) (b : Batch) → IsBatch trees b → 1 + length (batch_bytes b) ≡ commit_length (map op_of b.ops) b.records
