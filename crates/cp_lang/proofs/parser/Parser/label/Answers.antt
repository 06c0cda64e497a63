use Rattle.cp_lang.specs.Grammar.{at_label}
use Rattle.cp_lang.proofs.Steps.{steps_by}
use Rattle.cp_lang.proofs.parser.Parser.label.Goals as goal

pub returns : goal.returns
returns c = record { reads = steps_by _ _ _ _ at_label c.label_of.result c.in_ok-token.ensures.reads c.label_of.ensures.reads }
