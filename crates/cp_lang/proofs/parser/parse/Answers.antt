use Rattle.std.proofs.Common.{◌∙◌, inr, sym}
use Rattle.std.proofs.lemmas.Result.{err_from_is_err_and}
use Rattle.cp_lang.specs.Grammar.{start, statement_reading}
use Rattle.cp_lang.proofs.Spellable.{read_written, read_spellable}
use Rattle.cp_lang.proofs.Steps.{past}
use Rattle.cp_lang.proofs.parser.parse.Goals as goal

pub returns-in_err-statement-clause-answers : goal.returns-in_err-statement-clause-answers
unfolding statement_reading
returns-in_err-statement-clause-answers c = let p = err_from_is_err_and c.from_residual.result c.from_residual.ensures.1 in rw (p.1, p.2) (past _ _ _ (sym (c.new-parser.ensures start)) c.in_err-statement.ensures.reads)

pub returns-in-Err-clause-answers : goal.returns-in-Err-clause-answers
unfolding statement_reading
returns-in-Err-clause-answers c = inr (sym (c.new-parser.ensures start) ∙ c.in_ok-statement.ensures.reads ∙ c.in-Err.ensures.reads c.in_ok-statement.statement)

pub returns-in-Ok-clause-answers : goal.returns-in-Ok-clause-answers
unfolding statement_reading
returns-in-Ok-clause-answers c = sym (c.new-parser.ensures start) ∙ c.in_ok-statement.ensures.reads ∙ c.in-Ok.ensures.reads c.in_ok-statement.statement

pub returns-in-Ok-clause-spellable : goal.returns-in-Ok-clause-spellable
unfolding statement_reading
returns-in-Ok-clause-spellable c =
    read_spellable c.args.text.now c.in_ok-statement.statement
    (sym (c.new-parser.ensures start) ∙ c.in_ok-statement.ensures.reads ∙ c.in-Ok.ensures.reads c.in_ok-statement.statement)

pub returns-in-Ok-clause-written : goal.returns-in-Ok-clause-written
unfolding statement_reading
returns-in-Ok-clause-written c =
    read_written c.args.text.now c.in_ok-statement.statement
    (sym (c.new-parser.ensures start) ∙ c.in_ok-statement.ensures.reads ∙ c.in-Ok.ensures.reads c.in_ok-statement.statement)
