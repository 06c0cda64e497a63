use Rattle.std.proofs.Common.{◌∷◌, arith}
use Rattle.cp_tree.proofs.SumsLemmas.{children_len-append}
use Rattle.cp_tree_share.proofs.forest.Forest.balance.Goals as goal

pub overflow_add-after : goal.overflow_add-after
overflow_add-after c = omega (arith, children_len-append c.args.left.now.0 (c.args.entry.now ∷ c.args.right.now.0), c.requires.children.small.nodes, c.height-after.ensures.low)

pub overflow_add-before : goal.overflow_add-before
overflow_add-before c = omega (arith, children_len-append c.args.left.now.0 (c.args.entry.now ∷ c.args.right.now.0), c.requires.children.small.nodes, c.height-before.ensures.low)
