use Rattle.std.proofs.Common.{sym, ◌∙◌}
use Rattle.cp_gen.proofs.Counting.{numbers-given}
use Rattle.cp_gen.proofs.summary.numbers_of.Goals as goal

pub returns-clause-numbers : goal.returns-clause-numbers
returns-clause-numbers g c = λ t z. numbers-given t c.in-Some.answer c.in_ok-numbers.numbers c.in_ok-numbers.ensures (sym c.in-Some.is ∙ c.in_ok-found.ensures.answer t z)
