use Rattle.std.proofs.Common.{◌≡◌, ◌∙◌}
use Rattle.cp_tree_arena.proofs.Sound.{link_within}
use Rattle.cp_tree_arena.proofs.Linked.{node_is, sums_node, small_node}
use Rattle.cp_tree_arena.proofs.balance.node_sums.Goals as goal

pub bounds-slots-at : goal.bounds-slots-at
bounds-slots-at c =
    let w = c.requires in
    link_within 1 c.args.slots.now c.args.at.number c.args.links w.s w.l w.c w.r w.xs w.ys w.can

pub seen_above-requires : goal.seen_above-requires
seen_above-requires c =
    let w = c.requires in
    let is : c.index-slots-at.result ≡ w.s = node_is 1 c.args.slots.now c.args.at.number c.args.links w.s w.l w.c w.r w.xs w.ys w.can c.index-slots-at.result c.index-slots-at.is in
    rw (c.as_str-label.ensures.text, c.text_bytes-text.ensures.bytes, is) (small_node 1 c.args.slots.now c.args.at.number c.args.links w.s w.l w.c w.r w.xs w.ys w.can c.sums_at.result c.sums_at.ensures)

pub returns : goal.returns
returns c s l m r xs ys k =
    let is : c.index-slots-at.result ≡ s = node_is 1 c.args.slots.now c.args.at.number c.args.links s l m r xs ys k c.index-slots-at.result c.index-slots-at.is in
    c.seen_above.ensures ∙ rw (c.as_str-label.ensures.text, c.text_bytes-text.ensures.bytes, is) (sums_node 1 c.args.slots.now c.args.at.number c.args.links s l m r xs ys k c.sums_at.result c.sums_at.ensures)
