use Rattle.std.proofs.Common.{arith, [], ◌∷◌, ◌∙◌}
use Rattle.cp_tree.proofs.SumsLemmas.{children_len-append, children_front, children_back, sums_beside, small_beside}
use Rattle.cp_tree_share.specs.Falls.{some_place, rooted_at}
use Rattle.cp_tree_share.proofs.forest.Fork.settle.Goals as goal

pub overflow_add-self : goal.overflow_add-self
overflow_add-self c =
    let v = c.args.self.now in
    let n = children_len-append v.left.0 (v.entry ∷ v.right.0) in
    let s = some_place v.entry.1 (rooted_at v.left.0 v.entry v.right.0 c.requires.children.rooted) in
    omega (arith, n, s, c.requires.children.small.nodes, c.height.ensures.low, c.height-2.ensures.low, c.max.ensures)

pub sums-requires-2 : goal.sums-requires-2
sums-requires-2 c = let v = c.args.self.now in children_front (v.entry ∷ []) v.right.0 (children_back v.left.0 (v.entry ∷ v.right.0) c.requires.children)

pub beside-requires : goal.beside-requires
beside-requires c = let v = c.args.self.now in small_beside _ _ (v.entry ∷ []) v.right.0 c.sums-2.ensures c.sums-3.ensures.is (children_back v.left.0 (v.entry ∷ v.right.0) c.requires.children)

pub beside-self-requires : goal.beside-self-requires
beside-self-requires c =
    let v = c.args.self.now in
    let r = c.beside.ensures ∙ sums_beside _ _ (v.entry ∷ []) v.right.0 c.sums-2.ensures c.sums-3.ensures.is in
    small_beside _ _ v.left.0 (v.entry ∷ v.right.0) c.sums.ensures.is r c.requires.children

pub returns-clause-fork : goal.returns-clause-fork
returns-clause-fork c =
    let v = c.args.self.now in
    let n = children_len-append v.left.0 (v.entry ∷ v.right.0) in
    let s = some_place v.entry.1 (rooted_at v.left.0 v.entry v.right.0 c.requires.children.rooted) in
    let r = c.beside.ensures ∙ sums_beside _ _ (v.entry ∷ []) v.right.0 c.sums-2.ensures c.sums-3.ensures.is in
    let all = c.beside-self.ensures ∙ sums_beside _ _ v.left.0 (v.entry ∷ v.right.0) c.sums.ensures.is r in
    record { children = c.requires.children; high = omega arith; near = c.requires.near; sums = all; low = omega arith }
