use Rattle.std.proofs.Common.{◌∙◌, arith}
use Rattle.cp_tree_rows.proofs.Wrapping.{root_there, deep_enough, large_enough, few_inside, light_inside, reach_here}
use Rattle.cp_tree_rows.proofs.tree.RowTreeTreeRep.reach.Goals as goal

pub reach-requires-clause-few : goal.reach-requires-clause-few
reach-requires-clause-few c = deep_enough _ _ _ c.args.self.now.tree c.part.ensures.at

pub reach-requires-clause-short : goal.reach-requires-clause-short
reach-requires-clause-short c = large_enough _ _ _ c.args.self.now.tree c.part.ensures.at

pub reach-requires-clause-light : goal.reach-requires-clause-light
reach-requires-clause-light c = (let n = c.part.result in omega (arith, light_inside _ _ _ c.args.self.now.tree c.part.ensures.at (root_there n.item.now n.rows.now)))

pub reach-requires-clause-count : goal.reach-requires-clause-count
reach-requires-clause-count c = omega (arith, few_inside _ _ _ c.args.self.now.tree c.part.ensures.at)

pub returns : goal.returns
returns c = c.reach.ensures ∙ reach_here _ _ c.args.place.now _ c.part.ensures.at c.labels.ensures.labels
