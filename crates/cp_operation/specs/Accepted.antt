-- What an accepted operation is by itself.
use Rattle.std.specs.Prelude.{◌≡◌, true}
use Rattle.cp_model.specs.Place.{in_target}
use Rattle.cp_model.specs.Keyed.{from_entries}
use Rattle.cp_model.specs.Literals.{literal_rows}
use Rattle.cp_model.specs.Tree.{IsTree}
use Rattle.cp_model.specs.History.{IsLiteral}
use Rattle.cp_model.specs.declared.op.Op.{Op}
use Rattle.cp_model.specs.declared.op.Op.TheVariants.{Ins, Del, Copy}

-- of a place of T; what is inserted is a literal, and a tree within every limit
abbrev pub IsAcceptable : Op → Type 0
IsAcceptable (Ins p a l) = (in_target p ≡ true) × IsLiteral (literal_rows l) × IsTree (from_entries (literal_rows l))
IsAcceptable (Del a p) = in_target p ≡ true
IsAcceptable (Copy q p) = in_target p ≡ true
