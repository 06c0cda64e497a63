use Rattle.std.proofs.Common.{◌∙◌, inr, ap}
use Rattle.cp_lang.specs.Grammar.{start, ended}
use Rattle.cp_lang.specs.Parser.{after_verb, at_verb}
use Rattle.cp_lang.proofs.Steps.{takes_start, joined, leads, refused}
use Rattle.cp_lang.proofs.parser.Parser.statement.Goals as goal

pub returns-in-Some : goal.returns-in-Some
returns-in-Some c = record {
  reads =
      joined _ c.token.new.self _ start (after_verb c.in-Some.verb) ended c.after_verb.result
      (leads _ c.token.new.self start (after_verb c.in-Some.verb) _ _ _ (c.in_ok-token.ensures.reads start) (takes_start _) (c.verb_of.ensures ∙ ap at_verb c.in-Some.is))
      c.after_verb.ensures.reads;
}

pub returns-in-None : goal.returns-in-None
returns-in-None c = record {
  reads =
      inr (refused _ c.token.new.self start _ _ _ (c.in_ok-token.ensures.reads start) (takes_start _) (c.verb_of.ensures ∙ ap at_verb c.in-None.is));
}
