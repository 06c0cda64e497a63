-- Which errors of a look-up are failures of the disk.
use Rattle.std.specs.Prelude.{ℕ, ◌≡◌, Result, IfErr}
use Rattle.cp_outside.specs.Causes.{Accounts}
use Rattle.cp_disk.specs.Views.{KnownDisk}
use Rattle.cp_run.specs.declared.fault.RunFault.{RunFault}
use Rattle.cp_run.specs.declared.fault.RunFault.TheVariants.{Disk, BadRun}

-- A call that looks at pages of a disk: whether it is known what that holds stays, and its failures are accounted for; a page that
-- isn't one of rows is none of them.
pub record UsesPages {T : Type 0} (before now : KnownDisk) (result : Result T RunFault) : Type 0 where
  pub same : now.known ≡ before.known
  pub account : Accounts (λ e. e ≡ Disk) before.counts.faults now.counts.faults result
  pub calm : IfErr result (λ e. (n : ℕ) → e ≡ BadRun n → now.counts.faults ≡ before.counts.faults)
