use Rattle.std.proofs.Common.{◌∙◌, inr, ap, Some}
use Rattle.cp_lang.specs.Grammar.{Move, takes, refused_or, goes, ended, records_tid}
use Rattle.cp_model.specs.declared.query.Query.TheVariants as query
use Rattle.cp_lang.specs.declared.syntax_tree.Stmt.TheVariants as stmt
use Rattle.cp_lang.specs.Parser.{reading}
use Rattle.cp_lang.proofs.Steps.{stopped}
use Rattle.cp_lang.proofs.parser.Parser.records.Goals as goal

pub returns-in_err-number_of-in-Some : goal.returns-in_err-number_of-in-Some
unfolding takes
returns-in_err-number_of-in-Some c = record {
  reads =
      stopped _ _ records_tid ended _ _ c.from_residual.ensures.1
      (inr (c.in-Some.ensures.more records_tid ∙ c.in_err-number_of-in-Some.ensures.reads (λ t. goes (ended (stmt.Ask (query.Records (Some t))))) (reading c.next.new.self)));
}

pub returns-in_ok-number_of-in-Some : goal.returns-in_ok-number_of-in-Some
unfolding takes
returns-in_ok-number_of-in-Some c = record {
  reads =
      c.in-Some.ensures.more records_tid ∙ ap (λ (u : Move). refused_or u c.in-Some.token.at (reading c.next.new.self)) (c.in_ok-number_of-in-Some.ensures.reads (λ t. goes (ended (stmt.Ask (query.Records (Some t))))));
}
