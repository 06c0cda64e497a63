use Rattle.std.proofs.Common.{Err, ap, refl}
use Rattle.cp_scratch.proofs.database.new_db.Goals as goal

pub unreachable-requires : goal.unreachable-requires
unreachable-requires g c = (c.in-Err-Exists.ensures.exists refl (ap (λ e. Err e) c.in-Err-Exists.field-0-is)).0 c.requires.vacant
