use Rattle.std.proofs.Common.{◌∙◌, ◌∷◌}
use Rattle.std.specs.Prelude.{is_ok}
use Rattle.cp_tree_arena.proofs.Pooled.{pool_pushed, node_children, node_turned}
use Rattle.cp_tree_arena.proofs.pool.Pool.release_node.Goals as goal

pub returns-in-Some-clause-pool : goal.returns-in-Some-clause-pool
returns-in-Some-clause-pool c s m cs root sound p =
    let slots = c.args.self.now.slots.items in
    let free = c.args.self.now.free.items in
    let at = c.args.at.number in
    let there = rw c.deref.ensures.value at c.in-Some.ensures.there in
    let q = node_turned slots free at s m cs p in
    let e = node_children slots free at s m cs p c.in-Some.slot.now there in
    let below = (rw c.deref-in-Some.ensures.value at c.free_all.ensures) m ((at, s) ∷ cs) (e ∙ root) sound q in
    pool_pushed slots c.free_all.new.free.items c.push.new.self.items c.args.at s cs (is_ok c.push.result) c.push.ensures.items below
