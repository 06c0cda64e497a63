use Rattle.std.proofs.Common.{◌∷◌, arith}
use Rattle.cp_tree.proofs.SumsLemmas.{children_front}
use Rattle.cp_tree_share.proofs.forest.Forest.+pop_first.Goals as goal

pub pop_first-requires : goal.pop_first-requires
pop_first-requires t c =
    let f = c.in-Some.ensures.full in
    let g = c.in-Some-root.ensures.full in
    (omega (arith, f.count, f.some), (omega (arith, g.high), children_front c.in-Some.fork.now.left.0 (c.in-Some.fork.now.entry ∷ c.in-Some.fork.now.right.0) f.children))
