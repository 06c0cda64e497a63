use Rattle.std.proofs.Common.{arith}
use Rattle.std.proofs.lemmas.List.{get_or_read}
use Rattle.cp_tree_box.specs.Tallies.{places, weighs, deep, large}
use Rattle.cp_tree_box.proofs.Tallying.{hit}
use Rattle.cp_tree_box.proofs.tally.Tally.add_one.Goals as goal

pub overflow_add-self : goal.overflow_add-self
overflow_add-self c = omega (arith, c.requires.room places)

pub overflow_add-self-3 : goal.overflow_add-self-3
overflow_add-self-3 c = omega (arith, c.requires.room weighs, c.from.ensures, c.text_bytes.ensures)

pub overflow_add-self-4 : goal.overflow_add-self-4
overflow_add-self-4 c = omega (arith, c.requires.room weighs, c.from.ensures, c.text_bytes.ensures)

pub overflow_add-index_mut : goal.overflow_add-index_mut
overflow_add-index_mut c =
    let s = c.args.self.now in
    let read = get_or_read s.depths.items _ _ (omega (arith, c.requires.near.0, s.all_depths)) c.index_mut.ensures.value 0 in
    omega (arith, c.requires.room (deep c.args.at.depth), hit c.args.at.depth, read)

pub overflow_add-index_mut-2 : goal.overflow_add-index_mut-2
overflow_add-index_mut-2 c =
    let s = c.args.self.now in
    let read = get_or_read s.sizes.items _ _ (omega (arith, c.requires.near.1, s.all_sizes)) c.index_mut-2.ensures.value 0 in
    omega (arith, c.requires.room (large c.args.at.size), hit c.args.at.size, read)
