-- What an error of a disk, of memory or of a page makes of the answer of a run.
use Rattle.std.proofs.Common.{◌≡◌, ◌∙◌, ℕ, arith, refl, subst, sym, Result, Ok, Err, IsErrOf, IsErrAnd}
use Rattle.cp_outside.specs.Causes.{Accounts}
use Rattle.cp_disk.specs.Views.{KnownDisk}
use Rattle.cp_disk.specs.Counts.{Counted}
use Rattle.cp_disk.specs.declared.disk.DiskFault.{DiskFault}
use Rattle.cp_disk.specs.declared.disk.DiskFault.TheVariants as fault
use Rattle.cp_run.specs.Causes.{UsesPages}
use Rattle.cp_run.specs.declared.fault.RunFault.{RunFault}
use Rattle.cp_run.specs.declared.fault.RunFault.TheVariants.{Disk, BadRun, Memory}

-- this error of a run comes of that one of a disk
abbrev pub ComesOf : DiskFault → RunFault → Type 0
ComesOf f e = (f ≡ fault.Failed → e ≡ Disk) × (f ≡ fault.Memory → e ≡ Memory)

module _ {T : Type 0} where
  -- an error of a disk, after calls that gave none
  pub disk_accounts : {U : Type 0} (result : Result T RunFault) (before old new : KnownDisk) (f : DiskFault) → old.known ≡ before.known → old.counts.faults ≡ before.counts.faults → Counted {T = U} old new (Err f) → IsErrAnd result (ComesOf f) → UsesPages before new result
  disk_accounts (Ok v) before old new f known same counted gives = absurd gives
  disk_accounts (Err e) before old new fault.Failed known same counted gives = record {
    same = counted.same ∙ known;
    account =
        subst (λ (n : ℕ). Accounts {T = T} (λ e. e ≡ Disk) n new.counts.faults (Err e)) same (record { later = counted.faults.later; blamed = λ disk. counted.faults.blamed refl; steady = tt });
    calm = λ n bad. absurd (let h = gives.0 refl in cc);
  }
  disk_accounts (Err e) before old new fault.Memory known same counted gives = record {
    same = counted.same ∙ known;
    account =
        subst (λ (n : ℕ). Accounts {T = T} (λ e. e ≡ Disk) n new.counts.faults (Err e)) same (record { later = counted.faults.later; blamed = λ disk. absurd (cc (disk, gives.1 refl)); steady = tt });
    calm = λ n bad. absurd (let h = gives.1 refl in cc);
  }

  -- no error of a disk is one of a page
  pub disk_not_bad : (result : Result T RunFault) (f : DiskFault) (n : ℕ) → IsErrAnd result (ComesOf f) → IsErrOf result (BadRun n) → ⊥
  disk_not_bad (Ok v) f n gives is = absurd gives
  disk_not_bad (Err e) fault.Failed n gives is = cc (is, gives.0 refl)
  disk_not_bad (Err e) fault.Memory n gives is = cc (is, gives.1 refl)

  -- nor one of memory
  pub memory_not_bad : (result : Result T RunFault) (n : ℕ) → IsErrAnd result (λ e. e ≡ Memory) → IsErrOf result (BadRun n) → ⊥
  memory_not_bad (Ok v) n gives is = absurd gives
  memory_not_bad (Err e) n gives is = cc

  pub memory_accounts : (result : Result T RunFault) (before after : KnownDisk) → after.known ≡ before.known → after.counts.faults ≡ before.counts.faults → IsErrAnd result (λ e. e ≡ Memory) → UsesPages before after result
  memory_accounts (Ok v) before after known same gives = absurd gives
  memory_accounts (Err e) before after known same gives = record {
    same = known;
    account = record { later = omega (arith, same); blamed = λ disk. absurd (cc (disk, gives)); steady = tt };
    calm = λ n bad. same;
  }

  -- an error that is handed on
  pub same_error : {U : Type 0} (result : Result T RunFault) (e y : RunFault) → IsErrAnd result (λ x. x ≡ e) → IsErrOf result y → IsErrOf {T = U} {E = RunFault} (Err e) y
  same_error (Ok x) e y gives is = absurd gives
  same_error (Err x) e y gives is = cc

  pub uses_error : {U : Type 0} (result : Result T RunFault) (before old new : KnownDisk) (f : RunFault) → old.known ≡ before.known → old.counts.faults ≡ before.counts.faults → UsesPages {T = U} old new (Err f) → IsErrAnd result (λ x. x ≡ f) → UsesPages before new result
  uses_error (Ok v) before old new f known same uses gives = absurd gives
  uses_error (Err e) before old new f known same uses gives = record {
    same = uses.same ∙ known;
    account = subst (λ (n : ℕ). Accounts {T = T} (λ e. e ≡ Disk) n new.counts.faults (Err e)) same (record { later = uses.account.later; blamed = λ disk. uses.account.blamed (sym gives ∙ disk); steady = tt });
    calm = λ n bad. uses.calm n (sym gives ∙ bad) ∙ same;
  }
