use Rattle.std.proofs.Common.{◌≡◌, ◌∙◌, [], ◌++◌, length, arith}
use Rattle.cp_model.specs.Place.{child}
use Rattle.cp_model.specs.Subtrees.{with_subtree}
use Rattle.cp_tree.specs.Rows.{entries_in}
use Rattle.cp_tree.proofs.Built.{entries-tree_of_rows}
use Rattle.cp_tree_arena.specs.Building.{Built}
use Rattle.cp_tree_arena.specs.Shapes.{cells}
use Rattle.cp_tree_arena.proofs.Exchanged.{exchange_cut, exchange_put, exchange_done}
use Rattle.cp_tree_arena.proofs.Holding.{pool_none}
use Rattle.cp_tree_arena.proofs.Placing.{written, err_then, built_in, built_tree}
use Rattle.cp_tree_arena.proofs.Taking.{IsOut, out_pool, out_kept, out_built, out_written}
use Rattle.cp_tree_arena.proofs.Rows.{rows_small}
use Rattle.cp_tree_arena.proofs.Trees.{arena_built, built_arena}
use Rattle.cp_tree_arena.proofs.tree.Arena.exchange.Goals as goal
use Rattle.cp_tree_arena.proofs.tree.Arena.exchange.Goals.{In_ok-new, After-remove-removal, After-put-self-inside, After-release_node}

pub add_rows-requires-clause-pool : goal.add_rows-requires-clause-pool
add_rows-requires-clause-pool c = pool_none _ _ _ c.self.invariant.pool

pub add_rows-requires-clause-small : goal.add_rows-requires-clause-small
add_rows-requires-clause-small c = rows_small _ _ c.args.label.now _ c.requires.rows c.requires.fits

pub returns-in_err-new-clause-err : goal.returns-in_err-new-clause-err
returns-in_err-new-clause-err c =
    let b = arena_built c.self.inside _ c.self.view_is c.self.invariant in
    err_then c.from_residual.result _ (built_tree _ _ _ _ _ _ (built_in _ _ _ _ _ _ b _ _ _ (c.in_err-new.ensures.err (cells b.shape ++ []) b.pool)))

pub remove-removal-requires : goal.remove-removal-requires
remove-removal-requires c =
    let b = arena_built c.self.inside _ c.self.view_is c.self.invariant in
    let added = c.in_ok-new.ensures.ok (cells b.shape ++ []) b.pool in
    rw c.deref_mut.ensures.value (exchange_cut _ _ _ _ _ _ b.shape c.args.label.now _ _ _ (entries-tree_of_rows _ c.requires.rows) b.root b.sound b.good b.tree added c.requires.node c.requires.there c.requires.fits)

pub put-self-inside-requires : goal.put-self-inside-requires
put-self-inside-requires c =
    let b = arena_built c.self.inside _ c.self.view_is c.self.invariant in
    let added = c.in_ok-new.ensures.ok (cells b.shape ++ []) b.pool in
    let slots = c.deref_mut-2.ensures.value ∙ written _ _ _ (omega (arith, c.remove-removal.auto.slots, c.deref_mut.ensures.len, c.add_rows.new.self.slots.ok.0)) in
    rw slots (exchange_put _ _ _ _ _ _ b.shape c.args.label.now _ _ _ (entries-tree_of_rows _ c.requires.rows) b.root b.sound b.good b.tree added c.requires.node c.requires.there c.requires.fits
    _ _ _ _ (rw c.deref_mut.ensures.value at c.remove-removal.ensures))

-- the siblings after both, and the old node
done : (c : After-put-self-inside) → IsOut c.put-self-inside.new.slots c.add_rows.new.self.free.items c.put-self-inside.result.number c.remove-removal.result.gone.number c.self.inside.content
    (with_subtree (child c.args.place.now c.args.label.now) (entries_in c.args.rows.now) c.args.self.now) []
done c =
    let b = arena_built c.self.inside _ c.self.view_is c.self.invariant in
    let added = c.in_ok-new.ensures.ok (cells b.shape ++ []) b.pool in
    let slots = c.deref_mut-2.ensures.value ∙ written _ _ _ (omega (arith, c.remove-removal.auto.slots, c.deref_mut.ensures.len, c.add_rows.new.self.slots.ok.0)) in
    exchange_done _ _ _ _ _ _ b.shape c.args.label.now _ _ _ (entries-tree_of_rows _ c.requires.rows) b.root b.sound b.good b.tree added c.requires.node c.requires.there c.requires.fits
    _ _ _ _ (rw c.deref_mut.ensures.value at c.remove-removal.ensures) _ _ _ (rw slots at c.put-self-inside.ensures)

length_kept : (c : After-put-self-inside) → c.add_rows.new.self.slots.len ≡ length c.put-self-inside.new.slots
length_kept c = omega (arith, c.put-self-inside.auto.slots, c.deref_mut-2.ensures.len, c.add_rows.new.self.slots.ok.0)

pub release_node-requires : goal.release_node-requires
release_node-requires c =
    let d = (goal.at.release_node-requires c).After-put-self-inside in
    out_kept _ _ _ _ _ _ _ (out_written _ _ _ _ _ _ _ (done d) _ _ (length_kept d))

-- the siblings after the old node was set free
now : (c : After-release_node) → Built c.release_node.new.self.slots.items c.release_node.new.self.free.items c.put-self-inside.result.number c.self.inside.content
    (with_subtree (child c.args.place.now c.args.label.now) (entries_in c.args.rows.now) c.args.self.now) []
now c =
    let d = (goal.at.returns-clause-ok c).After-put-self-inside in
    let o = out_written _ _ _ _ _ _ _ (done d) _ _ (length_kept d) in
    out_built _ _ _ _ _ _ _ o _ _ (c.release_node.ensures.pool o.s o.c (cells o.shape ++ []) o.children o.below (out_pool _ _ _ _ _ _ _ o))

pub invariant_of-self-2 : goal.invariant_of-self-2
invariant_of-self-2 c = built_arena _ _ (now c)

pub returns-clause-ok : goal.returns-clause-ok
returns-clause-ok c = built_tree _ _ _ _ _ _ (now c)
