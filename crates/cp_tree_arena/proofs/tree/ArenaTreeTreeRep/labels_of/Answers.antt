use Rattle.std.proofs.Common.{◌≡◌, subst, IfOk}
use Rattle.cp_tree.proofs.Answering.{labels_sub}
use Rattle.cp_tree_arena.proofs.tree.ArenaTreeTreeRep.labels_of.Goals as goal

pub returns : goal.returns
returns c = subst (λ ls. IfOk c.labels-2.result (λ v. v.items ≡ ls)) (labels_sub _ _ _ _ c.node.ensures.at c.labels.ensures.labels) c.labels-2.ensures
