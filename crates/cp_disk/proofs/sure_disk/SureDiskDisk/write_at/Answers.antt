use Rattle.std.proofs.Common.{rules, refl, ◌≤◌, length}
use Rattle.cp_disk.proofs.Counting.{counted_want}
use Rattle.cp_disk.proofs.Kept.{kept_write, wrote_next}
use Rattle.cp_disk.proofs.sure_disk.SureDiskDisk.write_at.Goals as goal

pub invariant_of-self-else-is_err : goal.invariant_of-self-else-is_err
invariant_of-self-else-is_err c =
    let within : c.args.at ≤ length c.self.inside.file.items = search rules in
    kept_write _ _ _ c.self.invariant _ _ c.args.at c.args.bytes.now (search rules) within c.requires.most (search rules)

pub returns-clause-wrote : goal.returns-clause-wrote
returns-clause-wrote c =
    let within : c.args.at ≤ length c.self.inside.file.items = search rules in
    rw (← c.self.view_is) (wrote_next _ _ _ c.self.invariant _ c.args.at c.args.bytes.now (search rules) within)

pub returns-then-is_err-clause-cause : goal.returns-then-is_err-clause-cause
returns-then-is_err-clause-cause c =
    rw (← c.self.view_is) (counted_want _ _ refl refl c.saturating_add-self-inside.ensures (search rules))
