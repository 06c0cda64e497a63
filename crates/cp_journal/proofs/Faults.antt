-- What an error of a disk, or one of memory, makes of the answer of a journal.
use Rattle.std.proofs.Common.{◌≡◌, ◌∙◌, ◌⊎◌, inl, inr, ℕ, arith, refl, ap, subst, sym, Result, Ok, Err, OnErr, IsErrOf, IsErrAnd}
use Rattle.cp_outside.specs.Causes.{Accounts, Rose}
use Rattle.cp_disk.specs.Views.{KnownDisk}
use Rattle.cp_disk.specs.Counts.{Counted, UsesDisk}
use Rattle.cp_disk.specs.declared.disk.DiskFault.{DiskFault}
use Rattle.cp_disk.specs.declared.disk.DiskFault.TheVariants as fault
use Rattle.cp_journal.specs.declared.fault.JournalFault.{JournalFault}
use Rattle.cp_journal.specs.declared.fault.JournalFault.TheVariants.{Disk, Memory}

-- this error of a journal comes of that one of a disk
abbrev pub ComesOf : DiskFault → JournalFault → Type 0
ComesOf f e = (f ≡ fault.Failed → e ≡ Disk) × (f ≡ fault.Memory → e ≡ Memory)

module _ {T : Type 0} where
  -- an error of a disk
  pub disk_kinds : (result : Result T JournalFault) (f : DiskFault) → IsErrAnd result (ComesOf f) → OnErr result (IsErrOf result Disk ⊎ IsErrOf result Memory)
  disk_kinds (Ok v) f gives = tt
  disk_kinds (Err e) fault.Failed gives = inl (ap (λ (x : JournalFault). Err x) (gives.0 refl))
  disk_kinds (Err e) fault.Memory gives = inr (ap (λ (x : JournalFault). Err x) (gives.1 refl))

  pub disk_accounts : {U : Type 0} (result : Result T JournalFault) (before old new : KnownDisk) (f : DiskFault) → old.known ≡ before.known → old.counts.faults ≡ before.counts.faults → Counted {T = U} old new (Err f) → IsErrAnd result (ComesOf f) → UsesDisk (λ e. e ≡ Disk) before new result
  disk_accounts (Ok v) before old new f known same counted gives = absurd gives
  disk_accounts (Err e) before old new fault.Failed known same counted gives = record {
    same = counted.same ∙ known;
    account =
        subst (λ (n : ℕ). Accounts {T = T} (λ e. e ≡ Disk) n new.counts.faults (Err e)) same (record { later = counted.faults.later; blamed = λ disk. counted.faults.blamed refl; steady = tt });
  }
  disk_accounts (Err e) before old new fault.Memory known same counted gives = record {
    same = counted.same ∙ known;
    account =
        subst (λ (n : ℕ). Accounts {T = T} (λ e. e ≡ Disk) n new.counts.faults (Err e)) same (record { later = counted.faults.later; blamed = λ disk. absurd (cc (disk, gives.1 refl)); steady = tt });
  }

  pub disk_wants : {U : Type 0} (result : Result T JournalFault) (old new : KnownDisk) (f : DiskFault) → Counted {T = U} old new (Err f) → IsErrAnd result (ComesOf f) → IsErrOf result Memory → Rose old.counts.wants new.counts.wants
  disk_wants (Ok v) old new f counted gives is = absurd gives
  disk_wants (Err e) old new fault.Failed counted gives is = absurd (cc (is, gives.0 refl))
  disk_wants (Err e) old new fault.Memory counted gives is = counted.wants.blamed refl

  -- an error of memory
  pub memory_kinds : (result : Result T JournalFault) → IsErrAnd result (λ e. e ≡ Memory) → OnErr result (IsErrOf result Disk ⊎ IsErrOf result Memory)
  memory_kinds (Ok v) gives = tt
  memory_kinds (Err e) gives = inr (ap (λ (x : JournalFault). Err x) gives)

  pub memory_accounts : (result : Result T JournalFault) (before after : KnownDisk) → after.known ≡ before.known → after.counts.faults ≡ before.counts.faults → IsErrAnd result (λ e. e ≡ Memory) → UsesDisk (λ e. e ≡ Disk) before after result
  memory_accounts (Ok v) before after known same gives = absurd gives
  memory_accounts (Err e) before after known same gives = record { same = known; account = record { later = omega (arith, same); blamed = λ disk. absurd (cc (disk, gives)); steady = tt } }

  -- an error that is handed on
  pub counted_error : {U : Type 0} (result : Result T DiskFault) (old new : KnownDisk) (f : DiskFault) → Counted {T = U} old new (Err f) → IsErrAnd result (λ e. e ≡ f) → Counted old new result
  counted_error (Ok v) old new f counted gives = absurd gives
  counted_error (Err e) old new f counted gives =
      subst (λ (x : DiskFault). Counted {T = T} old new (Err x)) (sym gives) (record {
        same = counted.same;
        faults = record { later = counted.faults.later; blamed = counted.faults.blamed; steady = tt };
        wants = record { later = counted.wants.later; blamed = counted.wants.blamed; steady = tt };
      })

  -- a call after one that gave no error
  pub counted_after : {U : Type 0} (result : Result T DiskFault) (old between new : KnownDisk) (x : U) → Counted old between (Ok x) → Counted between new result → Counted old new result
  counted_after result old between new x first second = record {
    same = second.same ∙ first.same;
    faults = subst (λ (n : ℕ). Accounts (λ e. e ≡ fault.Failed) n new.counts.faults result) first.faults.steady second.faults;
    wants = subst (λ (n : ℕ). Accounts (λ e. e ≡ fault.Memory) n new.counts.wants result) first.wants.steady second.wants;
  }
