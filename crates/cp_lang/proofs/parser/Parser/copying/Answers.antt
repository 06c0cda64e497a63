use Rattle.std.proofs.Common.{◌∙◌, inr}
use Rattle.cp_lang.specs.Grammar.{ended, copy_origin, copy_into, copy_place}
use Rattle.cp_model.specs.declared.op.Op.TheVariants.{Copy}
use Rattle.cp_lang.specs.declared.syntax_tree.Stmt.TheVariants as stmt
use Rattle.cp_lang.proofs.Steps.{stopped, stopped_on, at_copy_origin, at_copy_into, at_copy_place}
use Rattle.cp_lang.proofs.parser.Parser.copying.Goals as goal

pub returns-in_err-from : goal.returns-in_err-from
returns-in_err-from c = record { reads = stopped _ _ copy_origin ended _ _ c.from_residual.ensures.1 (c.in_err-from.ensures.reads copy_origin (λ q. copy_into q) at_copy_origin) }

pub returns-in_err-word : goal.returns-in_err-word
returns-in_err-word c = record {
  reads =
      stopped_on _ _ _ copy_origin (copy_into c.in_ok-from.from) ended _ _ c.from_residual-in_err-word.ensures.1
      (c.in_ok-from.ensures.reads copy_origin (λ q. copy_into q) at_copy_origin)
      (inr (c.in_err-word.ensures.reads (copy_into _) (copy_place _) (at_copy_into c.in_ok-from.from)));
}

pub returns-in_err-into : goal.returns-in_err-into
returns-in_err-into c = record {
  reads =
      stopped_on _ _ _ copy_origin (copy_place c.in_ok-from.from) ended _ _ c.from_residual-in_err-into.ensures.1
      (c.in_ok-from.ensures.reads copy_origin (λ q. copy_into q) at_copy_origin ∙ c.in_ok-word.ensures.reads (copy_into _) (copy_place _) (at_copy_into c.in_ok-from.from))
      (c.in_err-into.ensures.reads (copy_place _) (λ p. ended (stmt.Op (Copy c.in_ok-from.from p))) (at_copy_place c.in_ok-from.from));
}

pub returns : goal.returns
returns c = record {
  reads =
      c.in_ok-from.ensures.reads copy_origin (λ q. copy_into q) at_copy_origin ∙ c.in_ok-word.ensures.reads (copy_into _) (copy_place _) (at_copy_into c.in_ok-from.from)
      ∙ c.in_ok-into.ensures.reads (copy_place _) (λ p. ended (stmt.Op (Copy c.in_ok-from.from p))) (at_copy_place c.in_ok-from.from);
}
