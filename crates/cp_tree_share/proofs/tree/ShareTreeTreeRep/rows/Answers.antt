use Rattle.cp_tree.proofs.Answering.{rows_at}
use Rattle.cp_tree_share.proofs.tree.ShareTreeTreeRep.rows.Goals as goal

pub returns : goal.returns
returns c = rows_at _ _ _ _ _ _ _ c.in_ok-rows_into.ensures.rows c.new-items.ensures.items c.new.ensures.items c.node.ensures.at c.labels.ensures.labels
