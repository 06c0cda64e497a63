-- The place that an operation writes.
use Rattle.cp_path.specs.declared.loc.Loc.{Loc}
use Rattle.cp_model.specs.Place.{child_place}
use Rattle.cp_model.specs.declared.op.Op.{Op}
use Rattle.cp_model.specs.declared.op.Op.TheVariants.{Ins, Del, Copy}

-- the place of the label that is inserted or deleted, or the place that is copied onto
abbrev pub written_by : Op → Loc
written_by (Ins p a l) = child_place p a
written_by (Del a p) = child_place p a
written_by (Copy q p) = p
