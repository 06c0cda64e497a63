use Rattle.std.proofs.Common.{◌≡◌, [], ◌++◌, length, refl, arith}
use Rattle.cp_model.specs.Place.{child}
use Rattle.cp_model.specs.Subtrees.{with_subtree}
use Rattle.cp_tree.specs.Rows.{root_entries}
use Rattle.cp_tree_arena.specs.Building.{Built}
use Rattle.cp_tree_arena.specs.Shapes.{Tip, cells}
use Rattle.cp_tree_arena.proofs.Holding.{pool_none}
use Rattle.cp_tree_arena.proofs.Placing.{built_tree, built_written, leaf_rows, leaf_at, leaf_small, put_may, put_done}
use Rattle.cp_tree_arena.proofs.Trees.{arena_built, built_arena}
use Rattle.cp_tree_arena.proofs.tree.Arena.put_leaf.Goals as goal
use Rattle.cp_tree_arena.proofs.tree.Arena.put_leaf.Goals.{After-put-self-inside}

pub add_node-requires-clause-pool : goal.add_node-requires-clause-pool
add_node-requires-clause-pool c = pool_none _ _ _ c.self.invariant.pool

pub add_node-requires-clause-node : goal.add_node-requires-clause-node
add_node-requires-clause-node c = leaf_at _ _ _ c.self.invariant.pool _ c.none.ensures _

pub add_node-requires-clause-small : goal.add_node-requires-clause-small
add_node-requires-clause-small c = leaf_small _ _ _ c.self.invariant.pool _ c.none.ensures _ _ _ c.args.label.now _ _ refl refl c.requires.small

pub put-self-inside-requires : goal.put-self-inside-requires
put-self-inside-requires c =
    let b = arena_built c.self.inside _ c.self.view_is c.self.invariant in
    let added = c.in_ok-new.ensures.ok Tip (cells b.shape ++ []) c.none.ensures tt b.pool in
    rw c.deref_mut.ensures.value (put_may _ _ _ _ _ c.self.view_is b.shape [] b.root b.sound b.good b.pool _ _ c.args.label.now refl _ _ (leaf_rows c.args.content _ refl) _ _ _ added c.requires.node c.requires.free c.requires.small)

-- the siblings after it was put
now : (c : After-put-self-inside) → Built c.put-self-inside.new.slots c.add_node.new.self.free.items c.put-self-inside.result.number c.self.inside.content
    (with_subtree (child c.args.place.now c.args.label.now) (root_entries c.args.content) c.args.self.now) []
now c =
    let b = arena_built c.self.inside _ c.self.view_is c.self.invariant in
    let added = c.in_ok-new.ensures.ok Tip (cells b.shape ++ []) c.none.ensures tt b.pool in
    put_done _ _ _ _ _ c.self.view_is b.shape [] b.root b.sound b.good b.pool _ _ c.args.label.now refl _ _ (leaf_rows c.args.content _ refl) _ _ _ added c.requires.node c.requires.free c.requires.small _ _ _ (rw c.deref_mut.ensures.value at c.put-self-inside.ensures)

length_kept : (c : After-put-self-inside) → c.add_node.new.self.slots.len ≡ length c.put-self-inside.new.slots
length_kept c = omega (arith, c.put-self-inside.auto.slots, c.deref_mut.ensures.len, c.add_node.new.self.slots.ok.0)

pub invariant_of-self-2 : goal.invariant_of-self-2
invariant_of-self-2 c = (let d = (goal.at.invariant_of-self-2 c).After-put-self-inside in built_arena _ _ (built_written _ _ _ _ _ _ _ _ (length_kept d) (now d)))

pub returns-clause-ok : goal.returns-clause-ok
returns-clause-ok c = (let d = (goal.at.returns-clause-ok c).After-put-self-inside in built_tree _ _ _ _ _ _ (built_written _ _ _ _ _ _ _ _ (length_kept d) (now d)))
