-- What a step of a session blames, by the steps that it is made of.
use Rattle.std.proofs.Common.{◌≡◌, Ok, Err, Result, refl, ◌∙◌, subst, arith}
use Rattle.std.specs.Prelude.{⊤}
use Rattle.cp_outside.specs.Causes.{Accounts}
use Rattle.cp_disk.specs.Views.{KnownDisk}
use Rattle.cp_interpreter.specs.Outside.{KnownOutput, World}
use Rattle.cp_interpreter.specs.Turns.{Uses, RefusesWrite}
use Rattle.cp_interpreter.specs.declared.stop.Stop.{Stop}
use Rattle.cp_interpreter.specs.declared.stop.Stop.TheVariants.{Output, Full, File, Disk, NoStore, Clock, Memory}
use Rattle.cp_interpreter.proofs.Lines.{refused-after}

-- nothing was done
pub uses-none : (b : World) (v : KnownDisk) → Uses b b v v (Ok tt)
uses-none b v = record {
  files = record { same = refl; account = record { later = omega arith; blamed = tt; steady = refl } };
  clock = record { later = omega arith; blamed = tt; steady = refl };
  output = record { account = record { later = omega arith; blamed = tt; steady = refl }; refuses = refl };
  disk = record { same = refl; account = record { later = omega arith; blamed = tt; steady = refl } };
}

-- writes that nothing stopped, and then others
refuses-after : (b m a : KnownOutput) (result : Result ⊤ Stop) → m.refusals ≡ b.refusals → RefusesWrite m a result → RefusesWrite b a result
refuses-after b m a (Ok x) same r = r ∙ same
refuses-after b m a (Err Output) same r = refused-after b m a same r
refuses-after b m a (Err Full) same r = refused-after b m a same r
refuses-after b m a (Err File) same r = r ∙ same
refuses-after b m a (Err Disk) same r = r ∙ same
refuses-after b m a (Err (NoStore at)) same r = r ∙ same
refuses-after b m a (Err Clock) same r = r ∙ same
refuses-after b m a (Err Memory) same r = r ∙ same

-- a step that nothing stopped, and then another
pub uses-then : (b m a : World) (v u w : KnownDisk) (result : Result ⊤ Stop) → Uses b m v u (Ok tt) → Uses m a u w result → Uses b a v w result
uses-then b m a v u w result first second = record {
  files = record {
    same = second.files.same ∙ first.files.same;
    account = subst (λ n. Accounts (λ e. e ≡ File) n a.files.faults result) first.files.account.steady second.files.account;
  };
  clock = subst (λ n. Accounts (λ e. e ≡ Clock) n a.clock.faults result) first.clock.steady second.clock;
  output = record {
    account = subst (λ n. Accounts (λ e. e ≡ Output) n a.output.faults result) first.output.account.steady second.output.account;
    refuses = refuses-after b.output m.output a.output result first.output.refuses second.output.refuses;
  };
  disk = record {
    same = second.disk.same ∙ first.disk.same;
    account = subst (λ n. Accounts (λ e. e ≡ Disk) n w.counts.faults result) first.disk.account.steady second.disk.account;
  };
}
