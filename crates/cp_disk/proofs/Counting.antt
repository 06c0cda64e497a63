-- What a call that failed is counted as.
use Rattle.std.proofs.Common.{◌≡◌, ◌≤◌, Ok, Err, Result, IfErr, arith}
use Rattle.cp_outside.specs.Causes.{one_more}
use Rattle.cp_disk.specs.Counts.{Counted}
use Rattle.cp_disk.specs.Views.{KnownDisk}
use Rattle.cp_disk.specs.declared.disk.DiskFault.TheVariants.{Failed, Memory}
use Rattle.cp_disk.specs.declared.disk.DiskFault.{DiskFault}
use Rattle.cp_outside.specs.Causes.{Accounts}

-- one fault more, and no want of memory
pub counted_failure : {T : Type 0} (old new : KnownDisk) → new.known ≡ old.known → old.counts.faults ≤ new.counts.faults → new.counts.faults ≡ one_more old.counts.faults → new.counts.wants ≡ old.counts.wants → Counted {T = T} old new (Err Failed)
counted_failure old new known later more same = record {
  same = known;
  faults = record { later = later; blamed = λ _. omega (arith, more); steady = tt };
  wants = record { later = omega (arith, same); blamed = λ none. absurd (cc none); steady = tt };
}

-- no fault, and memory may have run out
pub counted_sure : {T : Type 0} (result : Result T DiskFault) (old new : KnownDisk) → new.known ≡ old.known → IfErr result (λ e. e ≡ Memory) → new.counts.faults ≡ old.counts.faults → Accounts (λ e. e ≡ Memory) old.counts.wants new.counts.wants result → Counted old new result
counted_sure (Ok v) old new known sure same wants = record { same = known; faults = record { later = omega (arith, same); blamed = tt; steady = same }; wants = wants }
counted_sure (Err Failed) old new known sure same wants = absurd (cc sure)
counted_sure (Err Memory) old new known sure same wants = record { same = known; faults = record { later = omega (arith, same); blamed = λ none. absurd (cc none); steady = tt }; wants = wants }

-- one want of memory more, and no fault
pub counted_want : {T : Type 0} (old new : KnownDisk) → new.known ≡ old.known → new.counts.faults ≡ old.counts.faults → new.counts.wants ≡ one_more old.counts.wants → old.counts.wants ≤ new.counts.wants → Counted {T = T} old new (Err Memory)
counted_want old new known same more later = record {
  same = known;
  faults = record { later = omega (arith, same); blamed = λ none. absurd (cc none); steady = tt };
  wants = record { later = later; blamed = λ _. omega (arith, more); steady = tt };
}
