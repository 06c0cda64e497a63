-- What packed records hold.
use Rattle.cp_model.specs.declared.limits.TheConstants.{WEIGHT_MAX}
use Rattle.std.specs.Prelude.{ℕ, ◌≡◌, ◌≤◌, ◌<◌, ◌++◌, List, length, sum_by, ⊤}
use Rattle.std.specs.List.{AllByRecursion}
use Rattle.cp_model.specs.Place.{Path}
use Rattle.cp_model.specs.declared.row.Content.{Content}
use Rattle.cp_model.specs.declared.literal.Literal.{Literal}
use Rattle.cp_model.specs.declared.literal.Literal.TheVariants as literal
use Rattle.cp_model.specs.Literals.{literal_rows}
use Rattle.cp_model.specs.Tree.{weight_of}
use Rattle.cp_model.specs.declared.op.Op.{Op}
use Rattle.cp_model.specs.declared.op.Op.TheVariants.{Ins, Del, Copy}
use Rattle.cp_model.specs.declared.record.Record.{Record}
use Rattle.cp_record.specs.Bytes.{records_bytes}

-- the records end with one of them after so many bytes
pub record EndsAt (rs : List Record) (n : ℕ) : Type 0 where
  pub front : List Record
  pub behind : List Record
  pub all : rs ≡ front ++ behind
  pub bytes : n ≡ length (records_bytes front)

-- what was there is still there, and bytes may follow it
pub record Grew (old new : List ℕ) : Type 0 where
  pub added : List ℕ
  pub is : new ≡ old ++ added

-- an insertion whose tree is within the limit of weight
abbrev pub IsSmall : Op → Type 0
IsSmall (Ins p a l) = sum_by weight_of (literal_rows l) ≤ WEIGHT_MAX
IsSmall (Del a p) = ⊤
IsSmall (Copy q p) = ⊤

-- no row is that of a root
abbrev pub AreBelow : List (Path × Content) → Type 0
AreBelow rows = AllByRecursion (λ e. 0 < length e.0) rows

-- the rows of a literal tree are its root and others below it
abbrev pub IsTreeOfRows : Literal → Type 0
IsTreeOfRows (literal.Leaf v) = ⊤
IsTreeOfRows (literal.Node rows) = AreBelow rows
