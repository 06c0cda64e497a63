use Rattle.std.proofs.Common.{◌∙◌, inr, sym, codes, Some, None}
use Rattle.std.proofs.lemmas.Result.{err_from_is_err_and}
use Rattle.cp_lang.specs.Grammar.{ended, csv_by, csv_column, csv_load}
use Rattle.cp_lang.specs.Tokenized.{shape_of}
use Rattle.cp_lang.proofs.Steps.{takes_csv_by, on, leads, refused, worded, unworded, at_csv_column}
use Rattle.cp_lang.proofs.parser.Parser.key_column.Goals as goal

pub returns-in_default : goal.returns-in_default
returns-in_default c = record { reads = λ n f. c.in_default.ensures.none (csv_by n f) ∙ sym (c.in_default.ensures.last (csv_load n f None)) }

pub returns-then-not-is_word : goal.returns-then-not-is_word
returns-then-not-is_word c = record {
  reads = λ n f.
      inr (refused _ c.next.new.self (csv_by n f) _ _ _ (c.in-Some.ensures.more (csv_by n f)) (takes_csv_by n f _)
      (unworded (codes "by") (shape_of c.in-Some.token.shape) c.is_word.result (csv_column n f) (c.is_word.ensures (csv_column n f)) c.if-not-is_word.true));
}

pub returns-in_err-label : goal.returns-in_err-label
returns-in_err-label c = record {
  reads =
      let p = err_from_is_err_and c.from_residual.result c.from_residual.ensures.1 in
      rw (p.1, p.2) (λ n f.
      on _ _ _ _ _
      (leads _ c.next.new.self (csv_by n f) (csv_column n f) _ _ _ (c.in-Some.ensures.more (csv_by n f)) (takes_csv_by n f _)
      (worded (codes "by") (shape_of c.in-Some.token.shape) c.is_word.result (csv_column n f) (c.is_word.ensures (csv_column n f)) c.if-not-is_word.false))
      (c.in_err-label.ensures.reads (csv_column n f) (λ a. ended (csv_load n f (Some a))) (at_csv_column n f)));
}

pub returns : goal.returns
returns c = record {
  reads = λ n f.
      leads _ c.next.new.self (csv_by n f) (csv_column n f) _ _ _ (c.in-Some.ensures.more (csv_by n f)) (takes_csv_by n f _)
      (worded (codes "by") (shape_of c.in-Some.token.shape) c.is_word.result (csv_column n f) (c.is_word.ensures (csv_column n f)) c.if-not-is_word.false)
      ∙ c.in_ok-label.ensures.reads (csv_column n f) (λ a. ended (csv_load n f (Some a))) (at_csv_column n f);
}
