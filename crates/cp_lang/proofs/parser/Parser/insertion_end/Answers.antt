use Rattle.std.proofs.Common.{◌∙◌, inr}
use Rattle.cp_lang.specs.Grammar.{ended, ins_close, ins_into, ins_place}
use Rattle.cp_model.specs.declared.op.Op.TheVariants.{Ins}
use Rattle.cp_lang.specs.declared.syntax_tree.Stmt.TheVariants as stmt
use Rattle.cp_lang.proofs.Steps.{stopped, stopped_on, at_ins_close, at_ins_into, at_ins_place}
use Rattle.cp_lang.proofs.parser.Parser.insertion_end.Goals as goal

pub returns-in_err-close : goal.returns-in_err-close
returns-in_err-close c = record {
  reads =
      stopped _ _ (ins_close c.args.label c.args.tree) ended _ _ c.from_residual.ensures.1
      (inr (c.in_err-close.ensures.reads (ins_close _ _) (ins_into _ _) (at_ins_close c.args.label c.args.tree)));
}

pub returns-in_err-word : goal.returns-in_err-word
returns-in_err-word c = record {
  reads =
      stopped_on _ _ _ (ins_close c.args.label c.args.tree) (ins_into c.args.label c.args.tree) ended _ _ c.from_residual-in_err-word.ensures.1
      (c.in_ok-close.ensures.reads (ins_close _ _) (ins_into _ _) (at_ins_close c.args.label c.args.tree))
      (inr (c.in_err-word.ensures.reads (ins_into _ _) (ins_place _ _) (at_ins_into c.args.label c.args.tree)));
}

pub returns-in_err-into : goal.returns-in_err-into
returns-in_err-into c = record {
  reads =
      stopped_on _ _ _ (ins_close c.args.label c.args.tree) (ins_place c.args.label c.args.tree) ended _ _ c.from_residual-in_err-into.ensures.1
      (c.in_ok-close.ensures.reads (ins_close _ _) (ins_into _ _) (at_ins_close c.args.label c.args.tree)
      ∙ c.in_ok-word.ensures.reads (ins_into _ _) (ins_place _ _) (at_ins_into c.args.label c.args.tree))
      (c.in_err-into.ensures.reads (ins_place _ _) (λ p. ended (stmt.Op (Ins p c.args.label c.args.tree))) (at_ins_place c.args.label c.args.tree));
}

pub returns : goal.returns
returns c = record {
  reads =
      c.in_ok-close.ensures.reads (ins_close _ _) (ins_into _ _) (at_ins_close c.args.label c.args.tree)
      ∙ c.in_ok-word.ensures.reads (ins_into _ _) (ins_place _ _) (at_ins_into c.args.label c.args.tree)
      ∙ c.in_ok-into.ensures.reads (ins_place _ _) (λ p. ended (stmt.Op (Ins p c.args.label c.args.tree))) (at_ins_place c.args.label c.args.tree);
}
