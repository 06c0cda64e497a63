use Rattle.std.proofs.Common.{arith}
use Rattle.cp_tree_rows.proofs.Walking.{tree_len}
use Rattle.cp_tree_rows.proofs.Wrapping.{few_rows}
use Rattle.cp_tree_rows.proofs.tree.RowTreeTreeRep.count.Goals as goal

pub overflow_cast-result : goal.overflow_cast-result
overflow_cast-result c = (let b = c.args.self.now.branch in omega (arith, c.len.ensures, b.rows.ok.0, few_rows b.item b.last b.rows.items b.part c.args.self.now.tree.within.nodes))

pub overflow_add-result : goal.overflow_add-result
overflow_add-result c = (let b = c.args.self.now.branch in omega (arith, c.len.ensures, b.rows.ok.0, few_rows b.item b.last b.rows.items b.part c.args.self.now.tree.within.nodes))

pub returns : goal.returns
returns c = (let b = c.args.self.now.branch in omega (arith, c.len.ensures, b.rows.ok.0, tree_len b.item b.last b.rows.items b.part))
