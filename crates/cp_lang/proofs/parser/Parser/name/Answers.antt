use Rattle.cp_lang.specs.Grammar.{at_name}
use Rattle.cp_lang.proofs.Steps.{steps_by}
use Rattle.cp_lang.proofs.parser.Parser.name.Goals as goal

pub returns : goal.returns
returns c = record { reads = steps_by _ _ _ _ at_name c.name_of.result c.in_ok-token.ensures.reads c.name_of.ensures.reads }
