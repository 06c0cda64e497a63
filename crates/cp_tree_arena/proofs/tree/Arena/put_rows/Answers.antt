use Rattle.std.proofs.Common.{◌≡◌, [], ◌++◌, length, refl, arith}
use Rattle.cp_model.specs.Place.{child}
use Rattle.cp_model.specs.Subtrees.{with_subtree}
use Rattle.cp_tree.specs.Rows.{entries_in}
use Rattle.cp_tree.proofs.Built.{entries-tree_of_rows}
use Rattle.cp_tree.proofs.Small.{small_tree}
use Rattle.cp_tree_arena.specs.Building.{Built}
use Rattle.cp_tree_arena.specs.Shapes.{cells}
use Rattle.cp_tree_arena.proofs.Holding.{pool_none}
use Rattle.cp_tree_arena.proofs.Placing.{err_then, built_in, built_tree, built_written, put_may, put_done}
use Rattle.cp_tree_arena.proofs.Rows.{rows_small}
use Rattle.cp_tree_arena.proofs.Trees.{arena_built, built_arena}
use Rattle.cp_tree_arena.proofs.tree.Arena.put_rows.Goals as goal
use Rattle.cp_tree_arena.proofs.tree.Arena.put_rows.Goals.{After-put-self-inside}

pub add_rows-requires-clause-pool : goal.add_rows-requires-clause-pool
add_rows-requires-clause-pool c = pool_none _ _ _ c.self.invariant.pool

pub add_rows-requires-clause-small : goal.add_rows-requires-clause-small
add_rows-requires-clause-small c = rows_small _ _ c.args.label.now _ c.requires.rows c.requires.fits

pub returns-in_err-new-clause-err : goal.returns-in_err-new-clause-err
returns-in_err-new-clause-err c =
    let b = arena_built c.self.inside _ c.self.view_is c.self.invariant in
    err_then c.from_residual.result _ (built_tree _ _ _ _ _ _ (built_in _ _ _ _ _ _ b _ _ _ (c.in_err-new.ensures.err (cells b.shape ++ []) b.pool)))

pub put-self-inside-requires : goal.put-self-inside-requires
put-self-inside-requires c =
    let b = arena_built c.self.inside _ c.self.view_is c.self.invariant in
    let added = c.in_ok-new.ensures.ok (cells b.shape ++ []) b.pool in
    rw c.deref_mut.ensures.value (put_may _ _ _ _ _ c.self.view_is b.shape [] b.root b.sound b.good b.pool _ _ c.args.label.now refl _ _ (entries-tree_of_rows _ c.requires.rows) _ _ _ added c.requires.node c.requires.free (small_tree _ c.requires.fits))

-- the siblings after it was put
now : (c : After-put-self-inside) → Built c.put-self-inside.new.slots c.add_rows.new.self.free.items c.put-self-inside.result.number c.self.inside.content
    (with_subtree (child c.args.place.now c.args.label.now) (entries_in c.args.rows.now) c.args.self.now) []
now c =
    let b = arena_built c.self.inside _ c.self.view_is c.self.invariant in
    let added = c.in_ok-new.ensures.ok (cells b.shape ++ []) b.pool in
    put_done _ _ _ _ _ c.self.view_is b.shape [] b.root b.sound b.good b.pool _ _ c.args.label.now refl _ _ (entries-tree_of_rows _ c.requires.rows) _ _ _ added c.requires.node c.requires.free (small_tree _ c.requires.fits) _ _ _ (rw c.deref_mut.ensures.value at c.put-self-inside.ensures)

length_kept : (c : After-put-self-inside) → c.add_rows.new.self.slots.len ≡ length c.put-self-inside.new.slots
length_kept c = omega (arith, c.put-self-inside.auto.slots, c.deref_mut.ensures.len, c.add_rows.new.self.slots.ok.0)

pub invariant_of-self-2 : goal.invariant_of-self-2
invariant_of-self-2 c = (let d = (goal.at.invariant_of-self-2 c).After-put-self-inside in built_arena _ _ (built_written _ _ _ _ _ _ _ _ (length_kept d) (now d)))

pub returns-clause-ok : goal.returns-clause-ok
returns-clause-ok c = (let d = (goal.at.returns-clause-ok c).After-put-self-inside in built_tree _ _ _ _ _ _ (built_written _ _ _ _ _ _ _ _ (length_kept d) (now d)))
