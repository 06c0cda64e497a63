use Rattle.std.proofs.Common.{arith}
use Rattle.cp_tree_rows.proofs.Walking.{tree_weight}
use Rattle.cp_tree_rows.proofs.search.Part.weight.Goals as goal

pub weigh-requires : goal.weigh-requires
weigh-requires c = (let s = c.args.self in omega (arith, c.requires.light, tree_weight s.item.now s.last s.rows.now c.requires.part))

pub overflow_add-result : goal.overflow_add-result
overflow_add-result c = (let s = c.args.self in omega (arith, c.requires.light, c.text_bytes.ensures, tree_weight s.item.now s.last s.rows.now c.requires.part))

pub overflow_add-result-2 : goal.overflow_add-result-2
overflow_add-result-2 c = (let s = c.args.self in omega (arith, c.requires.light, c.text_bytes.ensures, c.weigh.ensures, tree_weight s.item.now s.last s.rows.now c.requires.part))

pub returns : goal.returns
returns c = (let s = c.args.self in omega (arith, c.text_bytes.ensures, c.weigh.ensures, tree_weight s.item.now s.last s.rows.now c.requires.part))
