-- What a disk counts, and which of its errors are counted where.
use Rattle.std.specs.Prelude.{◌≡◌, Result}
use Rattle.cp_outside.specs.Causes.{Accounts}
use Rattle.cp_disk.specs.Views.{KnownDisk}
use Rattle.cp_disk.specs.declared.disk.DiskFault.{DiskFault}
use Rattle.cp_disk.specs.declared.disk.DiskFault.TheVariants.{Failed, Memory}

-- A call of a disk: whether it is known what that holds stays, and its failures and wants of memory are accounted for, each by the errors that blame them.
pub record Counted {T : Type 0} (before now : KnownDisk) (result : Result T DiskFault) : Type 0 where
  pub same : now.known ≡ before.known
  pub faults : Accounts (λ e. e ≡ Failed) before.counts.faults now.counts.faults result
  pub wants : Accounts (λ e. e ≡ Memory) before.counts.wants now.counts.wants result

-- A call on a disk, for whose failures these errors are to blame: whether it is known what that holds stays, and its failures are accounted for.
pub record UsesDisk {T E : Type 0} (Blames : E → Type 0) (before now : KnownDisk) (result : Result T E) : Type 0 where
  pub same : now.known ≡ before.known
  pub account : Accounts Blames before.counts.faults now.counts.faults result
