use Rattle.std.proofs.Common.{arith}
use Rattle.cp_disk.proofs.Kept.{length-kept}
use Rattle.cp_disk.proofs.sure_disk.SureDiskDisk.size.Goals as goal

pub returns-clause-most : goal.returns-clause-most
returns-clause-most c = let few = length-kept _ _ _ c.self.invariant in omega (arith, few, c.len.ensures, c.self.inside.file.ok)
