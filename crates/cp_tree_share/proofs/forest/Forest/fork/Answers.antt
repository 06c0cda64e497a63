use Rattle.std.proofs.Common.{arith, [], ◌∷◌, ◌∙◌}
use Rattle.cp_tree.proofs.SumsLemmas.{children_len-append, children_front, children_back}
use Rattle.cp_tree_share.specs.Falls.{some_place, rooted_at}
use Rattle.cp_tree.proofs.SumsLemmas.{sums_beside, small_beside}
use Rattle.cp_tree_share.proofs.forest.Forest.fork.Goals as goal

pub sums-requires-2 : goal.sums-requires-2
sums-requires-2 c = children_front (c.args.entry ∷ []) c.args.right.0 (children_back c.args.left.0 (c.args.entry ∷ c.args.right.0) c.requires.children)

pub beside-requires : goal.beside-requires
beside-requires c = small_beside _ _ (c.args.entry ∷ []) c.args.right.0 c.sums-2.ensures c.sums-3.ensures.is (children_back c.args.left.0 (c.args.entry ∷ c.args.right.0) c.requires.children)

pub beside-sums-requires : goal.beside-sums-requires
beside-sums-requires c =
    let r = c.beside.ensures ∙ sums_beside _ _ (c.args.entry ∷ []) c.args.right.0 c.sums-2.ensures c.sums-3.ensures.is in
    small_beside _ _ c.args.left.0 (c.args.entry ∷ c.args.right.0) c.sums.ensures.is r c.requires.children

pub invariant_of-result : goal.invariant_of-result
invariant_of-result c =
    let n = children_len-append c.args.left.0 (c.args.entry ∷ c.args.right.0) in
    let s = some_place c.args.entry.1 (rooted_at c.args.left.0 c.args.entry c.args.right.0 c.requires.children.rooted) in
    let r = c.beside.ensures ∙ sums_beside _ _ (c.args.entry ∷ []) c.args.right.0 c.sums-2.ensures c.sums-3.ensures.is in
    let all = c.beside-sums.ensures ∙ sums_beside _ _ c.args.left.0 (c.args.entry ∷ c.args.right.0) c.sums.ensures.is r in
    rw c.in_ok-new.ensures.ok (record { children = c.requires.children; high = omega arith; near = c.requires.near; sums = all; low = omega arith })
