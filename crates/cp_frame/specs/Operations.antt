-- Operations as bytes, with insertions of trees.
use Rattle.std.specs.Prelude.{ℕ, ◌+◌, ◌≡◌, ◌≤◌, Bool, true, List, [], ◌∷◌, ◌++◌, length, map, ⊤}
use Rattle.std.specs.List.{AllByRecursion, flat_map}
use Rattle.cp_path.specs.Encoding.{counted_bytes, path_bytes}
use Rattle.cp_path.specs.declared.loc.Loc.{Loc}
use Rattle.cp_model.specs.declared.literal.Literal.TheVariants as literal
use Rattle.cp_model.specs.declared.op.Op.{Op}
use Rattle.cp_model.specs.declared.op.Op.TheVariants.{Ins}
use Rattle.cp_model.specs.Place.{Label}
use Rattle.cp_record.specs.Kept.{IsLabel, IsPath}
use Rattle.cp_format.specs.Formats.{Check, Format, ReadsAt, moved}
use Rattle.cp_format.specs.Operations.{HasSpelledParts, IsShort, IsTarget, IsSpelledOp, op_bytes, op_form}
use Rattle.cp_frame.specs.Trees.{Children, HasParts, number_of, node, rows_below, tree_bytes, tree_checks}
use Rattle.cp_frame.specs.Rooms.{FitsIn, Room, whole_room}

-- an operation as it is written: a short one, or the insertion of a node with children
pub data WrittenOp : Type 0 where
  short : Op → WrittenOp
  planted : Loc → Label → Children → WrittenOp

-- the operation that is written so
abbrev pub op_of : WrittenOp → Op
op_of (short o) = o
op_of (planted p a cs) = Ins p a (literal.Node (rows_below cs))

-- the number of its form
abbrev pub written_form : WrittenOp → ℕ
written_form (short o) = op_form o
written_form (planted p a cs) = 4

-- of an insertion of a tree the place, the label and the tree follow the number of the form
abbrev pub planted_front : Loc → Label → List ℕ
planted_front p a = path_bytes p.path ++ counted_bytes a

-- the bytes of an operation
abbrev pub written_bytes : WrittenOp → List ℕ
written_bytes (short o) = op_bytes o
written_bytes (planted p a cs) = 4 ∷ (planted_front p a ++ tree_bytes (node cs))

-- the labels of a tree that is inserted are judged
abbrev pub written_checks : WrittenOp → List Check
written_checks (short o) = []
written_checks (planted p a cs) = moved (1 + length (planted_front p a)) (tree_checks (node cs))

-- a node with children, in this room
pub record IsBranch (r : Room) (cs : Children) : Type 0 where
  pub fits : FitsIn r (node cs)
  pub some : 1 ≤ number_of cs

-- its places, its label, and its content or its tree are within the limits; the name of T has one byte
abbrev pub IsFit : WrittenOp → Type 0
IsFit (short o) = IsSpelledOp o
IsFit (planted p a cs) = IsTarget p × IsLabel a × IsBranch (whole_room 1) cs

-- the operation inserts no tree with children, or it may
abbrev pub IsAllowed : Bool → WrittenOp → Type 0
IsAllowed trees (short o) = ⊤
IsAllowed trees (planted p a cs) = trees ≡ true

-- a short operation inserts no tree with children, and one of the other form has children in its tree; its parts can be spelled
abbrev pub IsWellFormed : WrittenOp → Type 0
IsWellFormed (short o) = IsShort o × HasSpelledParts o
IsWellFormed (planted p a cs) = (1 ≤ number_of cs) × HasParts (node cs) × IsPath p.path × IsLabel a

-- an operation; one that inserts a tree with children only where that is allowed
abbrev pub op_format_with : Bool → Format WrittenOp
op_format_with trees = record { fit = λ w. IsFit w × IsAllowed trees w; bytes = λ w. written_bytes w; checks = λ w. written_checks w }

-- the checks of operations one after another
abbrev pub ops_checks : List WrittenOp → List Check
ops_checks [] = []
ops_checks (w ∷ ws) = written_checks w ++ moved (length (written_bytes w)) (ops_checks ws)

-- so many operations, one after another
abbrev pub ops_format_of : Bool → ℕ → Format (List WrittenOp)
ops_format_of trees n = record {
  fit = λ ws. AllByRecursion (λ w. IsFit w × IsAllowed trees w) ws × (length ws ≡ n);
  bytes = λ ws. flat_map written_bytes ws;
  checks = λ ws. ops_checks ws;
}

-- an operation stands at this offset
pub record HasTakenOp (trees : Bool) (bytes : List ℕ) (at : ℕ) (o : Op) (next : ℕ) : Type 0 where
  pub written : WrittenOp
  pub reads : ReadsAt (op_format_with trees) bytes at written next
  pub is : op_of written ≡ o

-- so many operations stand from this offset on
pub record HasTakenOps (trees : Bool) (n : ℕ) (bytes : List ℕ) (at : ℕ) (os : List Op) (next : ℕ) : Type 0 where
  pub written : List WrittenOp
  pub reads : ReadsAt (ops_format_of trees n) bytes at written next
  pub are : map op_of written ≡ os

-- the bytes of an operation were appended
pub record HasPutOp (o : Op) (old new : List ℕ) : Type 0 where
  pub written : WrittenOp
  pub is : op_of written ≡ o
  pub formed : IsWellFormed written
  pub bytes : new ≡ old ++ written_bytes written
