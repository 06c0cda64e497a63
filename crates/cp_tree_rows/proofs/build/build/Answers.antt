use Rattle.std.proofs.Common.{arith, ap, length}
use Rattle.cp_tree.proofs.Found.{no_length}
use Rattle.cp_tree.proofs.Building.{no_rows, begun_build, row_deep, row_parent, row_built, built_all}
use Rattle.cp_tree.proofs.FewRows.{first_text, row_text}
use Rattle.cp_tree_rows.proofs.build.build.Goals as goal

pub unreachable-requires : goal.unreachable-requires
unreachable-requires c = no_rows _ (no_length _ c.in-None.ensures.cases) c.requires.literal

pub of-requires : goal.of-requires
of-requires c = first_text _ _ _ c.in-Some.ensures.cases.0 c.requires.literal

pub loop-row-init : goal.loop-row-init
loop-row-init c = record {
  built = begun_build _ _ _ c.in-Some.ensures.cases.0 c.requires.literal _ _ c.leaf-tree.ensures.tree c.in_ok-of-in-Some.ensures;
  few = omega (arith, ap length c.leaf-tree.ensures.none);
}

pub add_row-requires-clause-deep : goal.add_row-requires-clause-deep
add_row-requires-clause-deep c = row_deep _ _ _ c.in-Some.ensures.cases.0 c.requires.literal c.loop-row.row-index c.row-item.result c.loop-row-test.true c.row-item.is

pub add_row-requires-clause-parent : goal.add_row-requires-clause-parent
add_row-requires-clause-parent c = row_parent _ _ _ c.in-Some.ensures.cases.0 c.requires.literal c.loop-row.row-index c.row-item.result c.loop-row-test.true c.row-item.is _ c.loop-row.invariant.built

pub add_row-requires-clause-text : goal.add_row-requires-clause-text
add_row-requires-clause-text c = row_text _ _ _ c.in-Some.ensures.cases.0 c.requires.literal c.loop-row.row-index c.row-item.result c.loop-row-test.true c.row-item.is

pub loop-row-preserved : goal.loop-row-preserved
loop-row-preserved c = record {
  built = row_built _ _ _ c.in-Some.ensures.cases.0 c.requires.literal c.loop-row.row-index c.row-item.result c.loop-row-test.true c.row-item.is _ c.loop-row.invariant.built _ c.in_ok-add_row-in-Some.ensures.added;
  few = omega (arith, c.loop-row.invariant.few, c.in_ok-add_row-in-Some.ensures.few);
}

pub returns : goal.returns
returns c = built_all _ _ _ c.in-Some.ensures.cases.0 c.requires.literal c.loop-row.row-index _ (omega (arith, c.loop-row-test.false)) c.loop-row.invariant.built
