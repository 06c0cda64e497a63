use Rattle.cp_lang.specs.Grammar.{takes, ended}
use Rattle.cp_lang.proofs.parser.Parser.finish.Goals as goal

pub returns-in-Some : goal.returns-in-Some
unfolding takes
returns-in-Some c = record { reads = λ x. c.in-Some.ensures.more (ended x) }
