use Rattle.std.proofs.Common.{[], ◌∙◌, inr}
use Rattle.cp_lang.specs.Grammar.{ended, ins_open, ins_label, tree_colon, tree, ins_close}
use Rattle.cp_lang.proofs.Steps.{stopped, stopped_on, joined, one, at_ins_open, at_ins_label, at_tree_colon}
use Rattle.cp_lang.proofs.parser.Parser.insertion.Goals as goal

pub returns-in_err-open : goal.returns-in_err-open
returns-in_err-open c = record { reads = stopped _ _ ins_open ended _ _ c.from_residual.ensures.1 (inr (c.in_err-open.ensures.reads ins_open ins_label at_ins_open)) }

pub returns-in_err-label : goal.returns-in_err-label
returns-in_err-label c = record {
  reads =
      stopped_on _ _ _ ins_open ins_label ended _ _ c.from_residual-in_err-label.ensures.1
      (c.in_ok-open.ensures.reads ins_open ins_label at_ins_open)
      (c.in_err-label.ensures.reads ins_label (λ a. tree_colon a []) at_ins_label);
}

pub returns-in_err-colon : goal.returns-in_err-colon
returns-in_err-colon c = record {
  reads =
      stopped_on _ _ _ ins_open (tree_colon c.in_ok-label.label []) ended _ _ c.from_residual-in_err-colon.ensures.1
      (c.in_ok-open.ensures.reads ins_open ins_label at_ins_open ∙ c.in_ok-label.ensures.reads ins_label (λ a. tree_colon a []) at_ins_label)
      (inr (c.in_err-colon.ensures.reads (tree_colon _ _) (tree _ _) (at_tree_colon c.in_ok-label.label [])));
}

pub returns-in_err-tree : goal.returns-in_err-tree
returns-in_err-tree c = record {
  reads =
      stopped_on _ _ _ ins_open (tree c.in_ok-label.label []) ended _ _ c.from_residual-in_err-tree.ensures.1
      (c.in_ok-open.ensures.reads ins_open ins_label at_ins_open ∙ c.in_ok-label.ensures.reads ins_label (λ a. tree_colon a []) at_ins_label
      ∙ c.in_ok-colon.ensures.reads (tree_colon _ _) (tree _ _) (at_tree_colon c.in_ok-label.label []))
      (c.in_err-tree.ensures.reads c.in_ok-label.label [] one);
}

pub returns : goal.returns
returns c = record {
  reads =
      joined _ _ _ ins_open (ins_close c.in_ok-label.label c.in_ok-tree.tree) ended c.insertion_end.result
      (c.in_ok-open.ensures.reads ins_open ins_label at_ins_open ∙ c.in_ok-label.ensures.reads ins_label (λ a. tree_colon a []) at_ins_label
      ∙ c.in_ok-colon.ensures.reads (tree_colon _ _) (tree _ _) (at_tree_colon c.in_ok-label.label []) ∙ c.in_ok-tree.ensures.reads c.in_ok-label.label [] one)
      c.insertion_end.ensures.reads;
}
