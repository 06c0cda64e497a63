use Rattle.cp_lang.specs.Grammar.{at_place}
use Rattle.cp_lang.proofs.Steps.{steps_by}
use Rattle.cp_lang.proofs.parser.Parser.place.Goals as goal

pub returns : goal.returns
returns c = record { reads = steps_by _ _ _ _ at_place c.place_of.result c.in_ok-token.ensures.reads c.place_of.ensures.reads }
