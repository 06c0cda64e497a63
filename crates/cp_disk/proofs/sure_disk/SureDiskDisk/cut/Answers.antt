use Rattle.std.proofs.Common.{rules, refl}
use Rattle.cp_disk.proofs.Counting.{counted_want}
use Rattle.cp_disk.proofs.Kept.{kept_cut, cut_next}
use Rattle.cp_disk.proofs.sure_disk.SureDiskDisk.cut.Goals as goal

pub invariant_of-self-2 : goal.invariant_of-self-2
invariant_of-self-2 c = kept_cut _ _ _ c.self.invariant _ _ c.args.size (search rules) c.truncate.ensures.items

pub returns-clause-was_cut : goal.returns-clause-was_cut
returns-clause-was_cut c = rw (← c.self.view_is) (cut_next _ _ _ c.self.invariant _ c.args.size (search rules))

pub returns-then-is_err-clause-cause : goal.returns-then-is_err-clause-cause
returns-then-is_err-clause-cause c =
    rw (← c.self.view_is) (counted_want _ _ refl refl c.saturating_add-self-inside.ensures (search rules))
