-- The clauses are the worked examples.
use Rattle.cp_reply.proofs.Worked as worked
use Rattle.cp_reply.proofs.examples.worked_examples.Goals as goal

pub returns-clause-copy_paste : goal.returns-clause-copy_paste
returns-clause-copy_paste c = worked.copy_paste

pub returns-clause-copies : goal.returns-clause-copies
returns-clause-copies c = worked.copies

pub returns-clause-net_effects : goal.returns-clause-net_effects
returns-clause-net_effects c = worked.net_effects

pub returns-clause-inserted_trees : goal.returns-clause-inserted_trees
returns-clause-inserted_trees c = worked.inserted_trees

pub returns-clause-transactions : goal.returns-clause-transactions
returns-clause-transactions c = worked.transactions

pub returns-clause-refusals : goal.returns-clause-refusals
returns-clause-refusals c = worked.refusals

pub returns-clause-sources : goal.returns-clause-sources
returns-clause-sources c = worked.sources

pub returns-clause-shared : goal.returns-clause-shared
returns-clause-shared c = worked.shared

pub returns-clause-spellings : goal.returns-clause-spellings
returns-clause-spellings c = worked.spellings
