use Rattle.std.proofs.Common.{arith, ap}
use Rattle.cp_model.specs.Tree.{weight}
use Rattle.cp_tree_rows.specs.Branches.{tree_in}
use Rattle.cp_tree_rows.proofs.Wrapping.{alone_tree}
use Rattle.cp_tree_rows.proofs.tree.RowTreeTreeRep.single.Goals as goal

pub weight-weight-requires-clause-light : goal.weight-weight-requires-clause-light
weight-weight-requires-clause-light c =
    let t = alone_tree _ _ c.requires.text c.number_range.ensures c.in_ok-of.ensures (tree_in c.leaf-branch.result) c.leaf-branch.ensures.tree in
    omega (arith, t.within.weighs, ap weight c.whole.ensures.tree)

pub invariant_of-result : goal.invariant_of-result
invariant_of-result c = record {
  tree = alone_tree _ _ c.requires.text c.number_range.ensures c.in_ok-of.ensures (tree_in c.leaf-branch.result) c.leaf-branch.ensures.tree;
  weighed = omega (arith, c.weight-weight.ensures, ap weight c.whole.ensures.tree);
}
