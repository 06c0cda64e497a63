use Rattle.cp_lang.specs.Grammar.{at_file}
use Rattle.cp_lang.proofs.Steps.{steps_by}
use Rattle.cp_lang.proofs.parser.Parser.file.Goals as goal

pub returns : goal.returns
returns c = record { reads = steps_by _ _ _ _ at_file c.file_of.result c.in_ok-token.ensures.reads c.file_of.ensures.reads }
