use Rattle.cp_model.specs.Trees.{levels}
use Rattle.cp_lang.proofs.Printing.{on_ok, short_ordered}
use Rattle.cp_lang.proofs.printer.push_literal.Goals as goal

pub returns : goal.returns
returns c = on_ok c.push_tree.result _ _ (λ f. f levels (short_ordered c.args.tree.now c.requires)) c.push_tree.ensures
