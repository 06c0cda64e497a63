use Rattle.std.proofs.Common.{refl, sym, ◌∙◌, arith}
use Rattle.cp_uses.proofs.Staying.{known-first, known-source}
use Rattle.cp_uses.proofs.stay.Stay.of.Goals as goal

pub returns-then-is_target-clause-known : goal.returns-then-is_target-clause-known
returns-then-is_target-clause-known c = λ k rs. known-first k rs c.args.reached.now _ (sym c.is_target.ensures ∙ c.if-is_target.true) refl refl

pub returns-else-is_target-clause-known : goal.returns-else-is_target-clause-known
returns-else-is_target-clause-known c = λ k rs. known-source k rs c.args.reached.now _ (sym c.is_target.ensures ∙ c.if-is_target.false) (omega arith) refl
