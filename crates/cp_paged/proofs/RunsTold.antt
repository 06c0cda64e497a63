-- What a look-up in runs answers.
use Rattle.std.proofs.Common.{arith, ℕ, ◌≡◌, ◌≤◌, sym, subst, refl, Result, Ok, Err, IsErrOf, IfOk, IsTrue, List, [], length}
use Rattle.std.specs.Prelude.{IfErr}
use Rattle.cp_outside.specs.Causes.{Accounts}
use Rattle.cp_disk.specs.Views.{KnownDisk, Rests}
use Rattle.cp_disk.specs.declared.disk.Disk as disk
use Rattle.cp_run.specs.Causes.{UsesPages}
use Rattle.cp_run.specs.Pages.{KeepsPages}
use Rattle.cp_run.specs.Sets.{RunSet}
use Rattle.cp_run.specs.declared.fault.RunFault.{RunFault}
use Rattle.cp_run.specs.declared.fault.RunFault.TheVariants as fault
use Rattle.cp_store.specs.declared.fault.StoreFault.{StoreFault}
use Rattle.cp_store.specs.declared.fault.StoreFault.TheVariants.{Disk}
use Rattle.cp_paged.specs.Calls.{AsksKeys}
use Rattle.cp_paged.specs.Stored.{answer_of, cost_of, rows_on}
use Rattle.cp_paged.proofs.RunsHeld.{held_on}

module _ {T : Type 0} (none : T) where
  -- where no page is bad, the answer is that of the runs
  pub told_of : (P : T → Type 0) (found : Result T RunFault) → ((n : ℕ) → IsErrOf found (fault.BadRun n) → ⊥) → IfOk found P → IfOk (answer_of none found) P
  told_of P (Ok v) whole is = is
  told_of P (Err (fault.BadRun n)) whole is = absurd (whole n refl)
  told_of P (Err fault.Disk) whole is = tt
  told_of P (Err fault.Memory) whole is = tt

  accounts_of : (before now : KnownDisk) (found : Result T RunFault) → UsesPages before now found → Accounts (λ e. e ≡ Disk) before.counts.faults now.counts.faults (answer_of none found)
  accounts_of before now (Ok v) uses = record { later = uses.account.later; blamed = tt; steady = uses.account.steady }
  accounts_of before now (Err (fault.BadRun n)) uses = record { later = uses.account.later; blamed = tt; steady = uses.calm n refl }
  accounts_of before now (Err fault.Disk) uses = record { later = uses.account.later; blamed = λ e. uses.account.blamed refl; steady = tt }
  accounts_of before now (Err fault.Memory) uses = record { later = uses.account.later; blamed = λ e. absurd (cc); steady = tt }

  -- runs were asked, of which there are some
  pub asked_of : {D : Type 0} (g : disk.Ghosts D) (s t : RunSet) (d e : D) (found : Result T RunFault) (result : Result T StoreFault) → result ≡ answer_of none found
      → (length s.runs ≡ 0 → ⊥) → t.runs ≡ s.runs → KeepsPages (g.known d) (g.known e) s.pages t.pages → Rests (g.known d) (g.known e) → UsesPages (g.known d) (g.known e) found
      → AsksKeys (rows_on g) (λ e. e ≡ Disk) (s, d) (t, e) result
  asked_of g s t d e found result is some runs keeps rests uses = record {
    rows = λ stored has. held_on (g.known d) (g.known e) s t stored uses.same runs keeps rests has;
    holds = refl;
    cost = let h = runs in cc;
    idle = λ no. absurd (some no);
    account = subst (λ r. Accounts (λ e. e ≡ Disk) (g.known d).counts.faults (g.known e).counts.faults r) (sym is) (accounts_of (g.known d) (g.known e) found uses);
  }
