use Rattle.std.proofs.Common.{[], ◌++◌, length, take, drop, arith}
use Rattle.cp_model.specs.Place.{child}
use Rattle.cp_model.specs.Subtrees.{without}
use Rattle.cp_tree_arena.specs.Building.{Built}
use Rattle.cp_tree_arena.specs.Shapes.{cells}
use Rattle.cp_tree_arena.proofs.Placing.{built_tree}
use Rattle.cp_tree_arena.proofs.Taking.{IsOut, cuttable, cut_done, out_pool, out_kept, out_built, out_written}
use Rattle.cp_tree_arena.proofs.Trees.{arena_built, built_arena}
use Rattle.cp_tree_arena.proofs.tree.Arena.remove.Goals as goal
use Rattle.cp_tree_arena.proofs.tree.Arena.remove.Goals.{After-remove-removal, After-release_node}

pub remove-removal-requires : goal.remove-removal-requires
remove-removal-requires c =
    let b = arena_built c.self.inside _ c.self.view_is c.self.invariant in
    rw c.deref_mut.ensures.value (cuttable _ _ _ _ _ b.shape [] _ _ b.root b.sound b.good b.tree b.pool c.requires.there c.requires.small)

-- what is left after it was taken out
left : (c : After-remove-removal) → IsOut (take c.self.inside.pool.slots.len (c.remove-removal.new.slots ++ drop (length c.remove-removal.new.slots) c.self.inside.pool.slots.items)) c.self.inside.pool.free.items c.remove-removal.result.root.number c.remove-removal.result.gone.number c.self.inside.content
    (without (child c.args.place.now c.args.label.now) c.args.self.now) []
left c =
    let b = arena_built c.self.inside _ c.self.view_is c.self.invariant in
    let out = cut_done _ _ _ _ _ b.shape [] _ _ b.root b.sound b.good b.tree b.pool c.requires.there c.requires.small _ _ _ _ (rw c.deref_mut.ensures.value at c.remove-removal.ensures) in
    out_written _ _ _ _ _ _ _ out _ _ (omega (arith, c.remove-removal.auto.slots, c.deref_mut.ensures.len, c.self.inside.pool.slots.ok.0))

pub release_node-requires : goal.release_node-requires
release_node-requires c = out_kept _ _ _ _ _ _ _ (left (goal.at.release_node-requires c).After-remove-removal)

-- the siblings after it was set free
now : (c : After-release_node) → Built c.release_node.new.self.slots.items c.release_node.new.self.free.items c.remove-removal.result.root.number c.self.inside.content (without (child c.args.place.now c.args.label.now) c.args.self.now) []
now c =
    let o = left (goal.at.invariant_of-self c).After-remove-removal in
    out_built _ _ _ _ _ _ _ o _ _ (c.release_node.ensures.pool o.s o.c (cells o.shape ++ []) o.children o.below (out_pool _ _ _ _ _ _ _ o))

pub invariant_of-self : goal.invariant_of-self
invariant_of-self c = built_arena _ _ (now c)

pub returns : goal.returns
returns c = built_tree _ _ _ _ _ _ (now c)
