use Rattle.std.proofs.Common.{◌≡◌, ◌∙◌, ◌++◌, sym, refl, length, arith}
use Rattle.cp_model.specs.declared.row.Content.TheVariants.{Node}
use Rattle.cp_tree_arena.specs.Shapes.{Tip, cells}
use Rattle.cp_tree_arena.proofs.Holding.{pool_none}
use Rattle.cp_tree_arena.proofs.Placing.{written, good_siblings, leaf_rows, leaf_at, leaf_small, held_tree, put_may, put_done}
use Rattle.cp_tree_arena.proofs.pool.Pool.add_row.Goals as goal

pub add_node-requires-clause-pool : goal.add_node-requires-clause-pool
add_node-requires-clause-pool c = pool_none _ _ _ c.requires.held.pool

pub add_node-requires-clause-node : goal.add_node-requires-clause-node
add_node-requires-clause-node c = leaf_at _ _ _ c.requires.held.pool _ c.none.ensures _

pub add_node-requires-clause-small : goal.add_node-requires-clause-small
add_node-requires-clause-small c =
    leaf_small _ _ _ c.requires.held.pool _ c.none.ensures _ _ _ c.in-Some.label.now _ _ (sym c.labels.ensures.labels ∙ c.in-Some.ensures.cases.0) c.in_ok-content-in-Some.ensures c.requires.small

pub put-requires : goal.put-requires
put-requires c =
    let h = c.requires.held in
    let path = sym c.labels.ensures.labels ∙ c.in-Some.ensures.cases.0 in
    let added = c.in_ok-new-in-Some.ensures.ok Tip (cells h.shape ++ h.cs) c.none.ensures tt h.pool in
    rw c.deref_mut.ensures.value (put_may _ _ _ Node _ refl h.shape h.cs h.root h.sound (good_siblings _ h.sound) h.pool _ _ c.in-Some.label.now path _ _ (leaf_rows _ _ c.in_ok-content-in-Some.ensures) _ _ _ added
    (c.requires.parent _ c.in-Some.label.now path) c.requires.free c.requires.small)

pub returns-clause-ok : goal.returns-clause-ok
returns-clause-ok c = λ t cs root sound pool.
    let path = sym c.labels.ensures.labels ∙ c.in-Some.ensures.cases.0 in
    let added = c.in_ok-new-in-Some.ensures.ok Tip (cells t ++ cs) c.none.ensures tt pool in
    let node = c.requires.parent _ c.in-Some.label.now path in
    let rows = leaf_rows _ _ c.in_ok-content-in-Some.ensures in
    let tree = held_tree _ _ _ Node _ refl t cs root sound (good_siblings _ sound) pool _ _ c.in-Some.label.now path _ _ rows _ _ _ added node in
    let built = put_done _ _ _ Node _ refl t cs root sound (good_siblings _ sound) pool _ _ c.in-Some.label.now path _ _ rows _ _ _ added node c.requires.free c.requires.small _ _ _ (rw c.deref_mut.ensures.value at c.put.ensures) in
    let length_kept : c.add_node.new.self.slots.len ≡ length c.put.new.slots = omega (arith, c.put.auto.slots, c.deref_mut.ensures.len, c.add_node.new.self.slots.ok.0) in
    rw (written _ _ _ length_kept, tree) built
