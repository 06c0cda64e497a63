use Rattle.std.proofs.Common.{[], refl, arith}
use Rattle.cp_tree.proofs.Building.{row_deep, built_all}
use Rattle.cp_tree.proofs.FewRows.{row_text}
use Rattle.cp_tree_arena.proofs.Placing.{built_kept}
use Rattle.cp_tree_arena.proofs.Rows.{begun_rows, built_as, built_held, next_parent, next_free, next_small, next_built}
use Rattle.cp_tree_arena.proofs.pool.Pool.build.Goals as goal

pub loop-row-init : goal.loop-row-init
loop-row-init c = λ cs pool. begun_rows c.args.first.now c.args.rows.now c.requires.literal _ _ _ cs c.none-root.ensures pool

pub add_row-requires-clause-deep : goal.add_row-requires-clause-deep
add_row-requires-clause-deep c = row_deep _ _ c.args.first.now refl c.requires.literal c.loop-row.row-index c.row-item.result c.loop-row-test.true c.row-item.is

pub add_row-requires-clause-held : goal.add_row-requires-clause-held
add_row-requires-clause-held c = built_held _ _ _ _ _ _ (c.loop-row.invariant [] c.requires.pool)

pub add_row-requires-clause-parent : goal.add_row-requires-clause-parent
add_row-requires-clause-parent c = next_parent c.args.first.now _ c.requires.literal c.loop-row.row-index c.row-item.result c.loop-row-test.true c.row-item.is _ _ _ _ (c.loop-row.invariant [] c.requires.pool)

pub add_row-requires-clause-free : goal.add_row-requires-clause-free
add_row-requires-clause-free c = next_free c.args.first.now _ c.requires.literal c.loop-row.row-index c.row-item.result c.loop-row-test.true c.row-item.is _ _ _ _ (c.loop-row.invariant [] c.requires.pool)

pub add_row-requires-clause-text : goal.add_row-requires-clause-text
add_row-requires-clause-text c = row_text _ _ c.args.first.now refl c.requires.literal c.loop-row.row-index c.row-item.result c.loop-row-test.true c.row-item.is

pub add_row-requires-clause-small : goal.add_row-requires-clause-small
add_row-requires-clause-small c = next_small c.args.first.now _ c.requires.literal c.loop-row.row-index c.row-item.result c.loop-row-test.true c.row-item.is _ _ _ _ (c.loop-row.invariant [] c.requires.pool) c.requires.small

pub release-requires : goal.release-requires
release-requires c = rw c.in-Err.ensures.err_slots (built_kept _ _ _ _ _ _ (c.loop-row.invariant [] c.requires.pool))

pub returns-in-Err-clause-err : goal.returns-in-Err-clause-err
returns-in-Err-clause-err c = λ cs pool.
    let b = c.loop-row.invariant cs pool in
    c.release.ensures.pool b.shape cs b.root b.sound (rw (c.in-Err.ensures.err_slots, c.in-Err.ensures.err_free) b.pool)

pub loop-row-preserved : goal.loop-row-preserved
loop-row-preserved c = λ cs pool.
    let b = c.loop-row.invariant cs pool in
    next_built c.args.first.now _ c.requires.literal c.loop-row.row-index c.row-item.result c.loop-row-test.true c.row-item.is _ _ _ _ b _ _ _ (c.in-Ok.ensures.ok b.shape cs b.root b.sound b.pool)

pub returns-clause-ok : goal.returns-clause-ok
returns-clause-ok c = λ cs pool.
    built_as _ _ _ _ _ _ cs (c.loop-row.invariant cs pool) (built_all _ _ c.args.first.now refl c.requires.literal c.loop-row.row-index _ (omega (arith, c.loop-row-test.false)) refl)
