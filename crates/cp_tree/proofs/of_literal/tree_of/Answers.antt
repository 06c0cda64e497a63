use Rattle.std.proofs.Common.{rules}
use Rattle.cp_tree.proofs.Siblings.{leaf_text}
use Rattle.cp_tree.proofs.of_literal.tree_of.Goals as goal

pub single-requires : goal.single-requires
single-requires g c = record { text = leaf_text c.args.literal.now c.in-Leaf.value c.in_ok-clone-in-Leaf.field-0 c.in-Leaf.is (search rules) c.requires.literal }
