use Rattle.std.proofs.Common.{arith, refl}
use Rattle.cp_tree_rows.proofs.Walking.{tree_len, tree_depth, tree_size, tree_reach}
use Rattle.cp_tree_rows.proofs.search.Part.reach.Goals as goal

pub extent_of-extent-requires-clause-few : goal.extent_of-extent-requires-clause-few
extent_of-extent-requires-clause-few c = (let s = c.args.self in omega (arith, c.requires.few, tree_depth s.item.now s.last s.rows.now c.requires.part))

pub extent_of-extent-requires-clause-short : goal.extent_of-extent-requires-clause-short
extent_of-extent-requires-clause-short c = (let s = c.args.self in omega (arith, c.requires.short, tree_size s.item.now s.last s.rows.now c.requires.part))

pub overflow_cast-result : goal.overflow_cast-result
overflow_cast-result c = (let s = c.args.self in omega (arith, c.requires.count, tree_len s.item.now s.last s.rows.now c.requires.part))

pub overflow_add-result : goal.overflow_add-result
overflow_add-result c = (let s = c.args.self in omega (arith, c.requires.count, tree_len s.item.now s.last s.rows.now c.requires.part))

pub returns : goal.returns
returns c = (let s = c.args.self in tree_reach s.item.now s.last s.rows.now c.requires.part _ refl c.weight.ensures c.extent_of-extent.ensures.depth c.extent_of-extent.ensures.size)
