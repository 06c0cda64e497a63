-- Which entries may be written: each one that was read may.
use Rattle.std.specs.Prelude.{ℕ, ◌^◌, ◌≡◌, ◌≤◌, ◌<◌, Bool, true, false, List, length, is_some, IfSome, ⊤}
use Rattle.std.specs.List.{AllByRecursion}
use Rattle.cp_path.specs.Place.{in_target, over_limit}
use Rattle.cp_path.specs.Text.{is_name}
use Rattle.cp_model.specs.History.{AreWritten, IsLiteral}
use Rattle.cp_model.specs.Keyed.{from_entries}
use Rattle.cp_model.specs.Literals.{literal_rows}
use Rattle.cp_model.specs.Place.{Path}
use Rattle.cp_model.specs.Subtrees.{is_there}
use Rattle.cp_model.specs.Tree.{IsTree}
use Rattle.cp_model.specs.declared.limits.TheConstants.{OPS_MAX}
use Rattle.cp_model.specs.declared.literal.Literal.{Literal}
use Rattle.cp_model.specs.declared.op.Op.{Op}
use Rattle.cp_model.specs.declared.op.Op.TheVariants.{Ins, Del, Copy}
use Rattle.cp_model.specs.declared.record.Record.{Record}
use Rattle.cp_record.specs.Kept.{is_copy}
use Rattle.cp_model.specs.Changes.{rises}
use Rattle.cp_format.specs.Operations.{IsShort}
use Rattle.cp_frame.specs.declared.entry.Entry.{Entry}
use Rattle.cp_frame.specs.declared.entry.Entry.TheVariants as entry

-- ---- trees

-- the rows are those of a literal, and of a tree within every limit
abbrev pub IsSoundTree : Literal → Type 0
IsSoundTree l = IsLiteral (literal_rows l) × IsTree (from_entries (literal_rows l))

-- a name, and such a tree whose places are within the limits of places under this name too
pub record IsSoundSource (n : List ℕ) (l : Literal) : Type 0 where
  pub name : is_name n ≡ true
  pub literal : IsLiteral (literal_rows l)
  pub tree : IsTree (from_entries (literal_rows l))
  pub places : (p : Path) → is_there (from_entries (literal_rows l)) p ≡ true → over_limit (record { db = n; path = p }) ≡ false

-- ---- commits

-- the operation changes T, and a tree that it inserts is within every limit; it has children only where that is allowed
abbrev pub IsSoundOp : Bool → Op → Type 0
IsSoundOp trees (Ins p a l) = (in_target p ≡ true) × IsSoundTree l × (trees ≡ false → IsShort (Ins p a l))
IsSoundOp trees (Del a p) = in_target p ≡ true
IsSoundOp trees (Copy q p) = in_target p ≡ true

-- records of T, each with a source exactly where it is a copy
abbrev pub AreWritable : List Record → Type 0
AreWritable rs = AllByRecursion (λ r. (in_target r.loc ≡ true) × (is_some r.src ≡ is_copy r.op)) rs

-- each place that the operation names is within the limits of places, which the type of a place leaves open
abbrev pub IsOpWithin : Op → Type 0
IsOpWithin (Ins p a l) = over_limit p ≡ false
IsOpWithin (Del a p) = over_limit p ≡ false
IsOpWithin (Copy q p) = (over_limit q ≡ false) × (over_limit p ≡ false)

-- the record's place is within the limits of places, and so is the one that it was copied from
abbrev pub IsRecordWithin : Record → Type 0
IsRecordWithin r = (over_limit r.loc ≡ false) × IfSome r.src (λ q. over_limit q ≡ false)

-- the same of all operations and of all records
abbrev pub AreWithin : List Op → List Record → Type 0
AreWithin os rs = AllByRecursion IsOpWithin os × AllByRecursion IsRecordWithin rs

-- operations that a statement can write, one at least and no more than a commit may have, and records in order, whose number has four bytes
pub record IsSoundBatch (trees : Bool) (os : List Op) (rs : List Record) : Type 0 where
  pub some : 1 ≤ length os
  pub few : length os ≤ OPS_MAX
  pub ops : AllByRecursion (IsSoundOp trees) os
  pub written : AreWritten os
  pub records : AreWritable rs
  pub rise : rises rs ≡ true
  pub counted : length rs < 2 ^ 32
  pub within : AreWithin os rs

-- ---- entries

-- the entry may be written
abbrev pub IsSoundEntry : Entry → Type 0
IsSoundEntry (entry.Start k l) = IsSoundTree l
IsSoundEntry (entry.Load n l) = IsSoundSource n l
IsSoundEntry (entry.Commit os rs) = IsSoundBatch false os rs
IsSoundEntry (entry.Stamped s os rs) = IsSoundBatch true os rs
