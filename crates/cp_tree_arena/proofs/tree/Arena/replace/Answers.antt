use Rattle.std.proofs.Common.{[], ◌++◌, sym, ap}
use Rattle.cp_tree.specs.Rows.{tree_of_rows}
use Rattle.cp_tree.proofs.Building.{no_rows}
use Rattle.cp_tree.proofs.FewRows.{first_text}
use Rattle.cp_tree.proofs.Found.{no_length}
use Rattle.cp_tree_arena.specs.Building.{Built}
use Rattle.cp_tree_arena.specs.Shapes.{cells}
use Rattle.cp_tree_arena.proofs.Holding.{pool_none, pool_turned}
use Rattle.cp_tree_arena.proofs.Placing.{err_then, pool_kept, built_in, built_tree}
use Rattle.cp_tree_arena.proofs.Rows.{built_for}
use Rattle.cp_tree_arena.proofs.Trees.{arena_built, built_arena}
use Rattle.cp_tree_arena.proofs.tree.Arena.replace.Goals as goal
use Rattle.cp_tree_arena.proofs.tree.Arena.replace.Goals.{In_ok-children-in-Some, Joined-self-content}

pub unreachable-requires : goal.unreachable-requires
unreachable-requires c = no_rows _ (no_length _ c.in-None.ensures.cases) c.requires.rows

pub of-requires : goal.of-requires
of-requires c = first_text _ _ _ c.in-Some.ensures.cases.0 c.requires.rows

pub build-requires-clause-pool : goal.build-requires-clause-pool
build-requires-clause-pool c = pool_none _ _ _ c.self.invariant.pool

pub returns-in_err-children-in-Some-clause-err : goal.returns-in_err-children-in-Some-clause-err
returns-in_err-children-in-Some-clause-err c =
    let b = arena_built c.self.inside _ c.self.view_is c.self.invariant in
    err_then c.from_residual-in_err-children-in-Some.result _ (built_tree _ _ _ _ _ _ (built_in _ _ _ _ _ _ b _ _ _ (c.in_err-children-in-Some.ensures.err (cells b.shape ++ []) b.pool)))

-- the new siblings, besides the old ones
built : (c : In_ok-children-in-Some) → Built c.build.new.self.slots.items c.build.new.self.free.items c.in_ok-children-in-Some.children.number c.in_ok-content-in-Some.content (tree_of_rows c.args.rows.now) (cells c.self.invariant.shape ++ [])
built c =
    let b = arena_built c.self.inside _ c.self.view_is c.self.invariant in
    built_for _ _ _ _ _ _ _ _ (c.in_ok-children-in-Some.ensures.ok (cells b.shape ++ []) b.pool) (sym c.in_ok-content-in-Some.ensures) (ap tree_of_rows (sym c.in-Some.ensures.cases.0))

pub release-requires : goal.release-requires
release-requires c =
    let i = c.self.invariant in
    let b = built (goal.at.release-requires c).In_ok-children-in-Some in
    pool_kept _ _ _ i.shape _ i.root i.sound (pool_turned _ _ (cells b.shape) (cells i.shape) [] b.pool)

now : (c : Joined-self-content) → Built c.release.new.self.slots.items c.release.new.self.free.items c.in_ok-children-in-Some.children.number c.in_ok-content-in-Some.content (tree_of_rows c.args.rows.now) []
now c =
    let i = c.self.invariant in
    let b = built (goal.at.returns-clause-ok c).In_ok-children-in-Some in
    built_in _ _ _ _ _ _ b _ _ [] (c.release.ensures.pool i.shape (cells b.shape ++ []) i.root i.sound (pool_turned _ _ (cells b.shape) (cells i.shape) [] b.pool))

pub invariant_of-self-in-Some : goal.invariant_of-self-in-Some
invariant_of-self-in-Some c = built_arena _ _ (now c)

pub returns-clause-ok : goal.returns-clause-ok
returns-clause-ok c = built_tree _ _ _ _ _ _ (now c)
