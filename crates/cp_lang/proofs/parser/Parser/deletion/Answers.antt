use Rattle.std.proofs.Common.{◌∙◌, inr}
use Rattle.cp_lang.specs.Grammar.{ended, del_label, del_from, del_place}
use Rattle.cp_model.specs.declared.op.Op.TheVariants.{Del}
use Rattle.cp_lang.specs.declared.syntax_tree.Stmt.TheVariants as stmt
use Rattle.cp_lang.proofs.Steps.{stopped, stopped_on, at_del_label, at_del_from, at_del_place}
use Rattle.cp_lang.proofs.parser.Parser.deletion.Goals as goal

pub returns-in_err-label : goal.returns-in_err-label
returns-in_err-label c = record { reads = stopped _ _ del_label ended _ _ c.from_residual.ensures.1 (c.in_err-label.ensures.reads del_label (λ a. del_from a) at_del_label) }

pub returns-in_err-word : goal.returns-in_err-word
returns-in_err-word c = record {
  reads =
      stopped_on _ _ _ del_label (del_from c.in_ok-label.label) ended _ _ c.from_residual-in_err-word.ensures.1
      (c.in_ok-label.ensures.reads del_label (λ a. del_from a) at_del_label)
      (inr (c.in_err-word.ensures.reads (del_from _) (del_place _) (at_del_from c.in_ok-label.label)));
}

pub returns-in_err-from : goal.returns-in_err-from
returns-in_err-from c = record {
  reads =
      stopped_on _ _ _ del_label (del_place c.in_ok-label.label) ended _ _ c.from_residual-in_err-from.ensures.1
      (c.in_ok-label.ensures.reads del_label (λ a. del_from a) at_del_label ∙ c.in_ok-word.ensures.reads (del_from _) (del_place _) (at_del_from c.in_ok-label.label))
      (c.in_err-from.ensures.reads (del_place _) (λ p. ended (stmt.Op (Del c.in_ok-label.label p))) (at_del_place c.in_ok-label.label));
}

pub returns : goal.returns
returns c = record {
  reads =
      c.in_ok-label.ensures.reads del_label (λ a. del_from a) at_del_label ∙ c.in_ok-word.ensures.reads (del_from _) (del_place _) (at_del_from c.in_ok-label.label)
      ∙ c.in_ok-from.ensures.reads (del_place _) (λ p. ended (stmt.Op (Del c.in_ok-label.label p))) (at_del_place c.in_ok-label.label);
}
