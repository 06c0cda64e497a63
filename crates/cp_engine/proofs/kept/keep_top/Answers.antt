use Rattle.cp_operation.proofs.Changed.{on-ok}
use Rattle.cp_engine.proofs.KeptRecords.{given-up-behind}
use Rattle.cp_engine.proofs.kept.keep_top.Goals as goal

pub returns-in_default-clause-rows : goal.returns-in_default-clause-rows
returns-in_default-clause-rows g c = on-ok c.change_tree.result (given-up-behind c.args.rows.now _ (λ held e. c.in_default.not-Held held e))
