use Rattle.cp_gen.proofs.SourceLaws.{source-literal, source-is_tree}
use Rattle.cp_gen.proofs.source_tree.source.Goals as goal

pub tree_of-requires : goal.tree_of-requires
tree_of-requires g c =
    record { literal = rw c.in_ok-literal.ensures source-literal; tree = rw c.in_ok-literal.ensures source-is_tree }
