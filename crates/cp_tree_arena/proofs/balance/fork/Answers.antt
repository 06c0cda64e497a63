use Rattle.std.proofs.Common.{◌≡◌, arith, ap, sym, ◌∙◌, slice_index_or, ◌+◌}
use Rattle.cp_tree_arena.proofs.Sound.{link_within}
use Rattle.cp_tree_arena.proofs.Linked.{node_is, left_height, right_height, after_small, all_small, all_sums, few_levels, linked}
use Rattle.cp_tree_arena.proofs.balance.fork.Goals as goal

pub overflow_add-height : goal.overflow_add-height
overflow_add-height c =
    let w = c.requires in
    omega (arith, few_levels 1 c.args.slots.now c.args.at.number c.args.links w.s w.l w.c w.r w.xs w.ys w.can, left_height 1 c.args.slots.now c.args.at.number c.args.links w.s w.l w.c w.r w.xs w.ys w.can, right_height 1 c.args.slots.now c.args.at.number c.args.links w.s w.l w.c w.r w.xs w.ys w.can)

pub beside-after-requires : goal.beside-after-requires
beside-after-requires c =
    let w = c.requires in
    after_small 1 c.args.slots.now c.args.at.number c.args.links w.s w.l w.c w.r w.xs w.ys w.can c.node_sums.result c.sums_at.result (c.node_sums.ensures w.s w.l w.c w.r w.xs w.ys w.can) c.sums_at.ensures

pub beside-sums-requires : goal.beside-sums-requires
beside-sums-requires c =
    let w = c.requires in
    all_small 1 c.args.slots.now c.args.at.number c.args.links w.s w.l w.c w.r w.xs w.ys w.can c.node_sums.result c.sums_at.result (c.node_sums.ensures w.s w.l w.c w.r w.xs w.ys w.can) c.sums_at.ensures c.sums_at-2.result c.beside-after.result c.sums_at-2.ensures c.beside-after.ensures

pub bounds-slots-at : goal.bounds-slots-at
bounds-slots-at c = let w = c.requires in link_within 1 c.args.slots.now c.args.at.number c.args.links w.s w.l w.c w.r w.xs w.ys w.can

pub returns : goal.returns
returns c s l m r xs ys k =
    let before = slice_index_or c.args.slots.now c.args.at.number c.index-slots-at.result in
    let is : before ≡ s = sym c.index-slots-at.is ∙ node_is 1 c.args.slots.now c.args.at.number c.args.links s l m r xs ys k c.index-slots-at.result c.index-slots-at.is in
    linked c.args.slots.now c.args.at.number c.args.links s l m r xs ys k
    (record { label = before.label; content = before.content; links = c.args.links; height = c.max-height.result + 1; sums = c.beside-sums.result })
    (ap (λ z. z.label) is) (ap (λ z. z.content) is) (λ i. c.args.links)
    (omega (arith, c.max-height.ensures, c.height_at.ensures, c.height_at-2.ensures, left_height 1 c.args.slots.now c.args.at.number c.args.links s l m r xs ys k, right_height 1 c.args.slots.now c.args.at.number c.args.links s l m r xs ys k))
    (c.beside-sums.ensures ∙ all_sums 1 c.args.slots.now c.args.at.number c.args.links s l m r xs ys k c.node_sums.result c.sums_at.result (c.node_sums.ensures s l m r xs ys k) c.sums_at.ensures c.sums_at-2.result c.beside-after.result c.sums_at-2.ensures c.beside-after.ensures)
