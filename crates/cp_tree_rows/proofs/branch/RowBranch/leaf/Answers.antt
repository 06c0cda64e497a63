use Rattle.cp_tree_rows.proofs.Growing.{leaf_part, leaf_tree}
use Rattle.cp_tree_rows.proofs.branch.RowBranch.leaf.Goals as goal

pub invariant_of-result : goal.invariant_of-result
invariant_of-result c = record { part = leaf_part c.args.item c.new.result.items c.new.ensures.items }

pub returns-clause-tree : goal.returns-clause-tree
returns-clause-tree c = leaf_tree c.args.item c.new.result.items c.new.ensures.items
