use Rattle.std.proofs.Common.{arith}
use Rattle.cp_tree_arena.proofs.Linked.{left_height, right_height, few_levels}
use Rattle.cp_tree_arena.proofs.Settling.{settled_left, settled_right, settled_fork, narrowed}
use Rattle.cp_tree_arena.proofs.balance.balance.Goals as goal

pub overflow_add-after : goal.overflow_add-after
overflow_add-after c =
    let w = c.requires in
    omega (arith, c.height_at-after.ensures, right_height 2 c.args.slots.now c.args.at.number c.args.links w.s w.l w.c w.r w.xs w.ys w.can, few_levels 2 c.args.slots.now c.args.at.number c.args.links w.s w.l w.c w.r w.xs w.ys w.can)

pub overflow_add-before : goal.overflow_add-before
overflow_add-before c =
    let w = c.requires in
    omega (arith, c.height_at-before.ensures, left_height 2 c.args.slots.now c.args.at.number c.args.links w.s w.l w.c w.r w.xs w.ys w.can, few_levels 2 c.args.slots.now c.args.at.number c.args.links w.s w.l w.c w.r w.xs w.ys w.can)

pub lean_left-requires-clause-two_higher : goal.lean_left-requires-clause-two_higher
lean_left-requires-clause-two_higher c =
    let w = c.requires in
    omega (arith, c.if-before-after.true, c.height_at-before.ensures, c.height_at-after.ensures, w.can.near, left_height 2 c.args.slots.now c.args.at.number c.args.links w.s w.l w.c w.r w.xs w.ys w.can, right_height 2 c.args.slots.now c.args.at.number c.args.links w.s w.l w.c w.r w.xs w.ys w.can)

pub lean_right-requires-clause-two_higher : goal.lean_right-requires-clause-two_higher
lean_right-requires-clause-two_higher c =
    let w = c.requires in
    omega (arith, c.if-after-before.true, c.height_at-before.ensures, c.height_at-after.ensures, w.can.near, left_height 2 c.args.slots.now c.args.at.number c.args.links w.s w.l w.c w.r w.xs w.ys w.can, right_height 2 c.args.slots.now c.args.at.number c.args.links w.s w.l w.c w.r w.xs w.ys w.can)

pub returns-then-before-after : goal.returns-then-before-after
returns-then-before-after c s l m r xs ys k =
    settled_left c.lean_left.new.slots c.lean_left.result.number s l m r xs ys
    (omega (arith, c.if-before-after.true, c.height_at-before.ensures, c.height_at-after.ensures, k.near, left_height 2 c.args.slots.now c.args.at.number c.args.links s l m r xs ys k, right_height 2 c.args.slots.now c.args.at.number c.args.links s l m r xs ys k))
    (c.lean_left.ensures s l m r xs ys k)

pub returns-then-after-before : goal.returns-then-after-before
returns-then-after-before c s l m r xs ys k =
    settled_right c.lean_right.new.slots c.lean_right.result.number s l m r xs ys
    (omega (arith, c.if-after-before.true, c.height_at-before.ensures, c.height_at-after.ensures, k.near, left_height 2 c.args.slots.now c.args.at.number c.args.links s l m r xs ys k, right_height 2 c.args.slots.now c.args.at.number c.args.links s l m r xs ys k))
    (c.lean_right.ensures s l m r xs ys k)

pub fork-requires : goal.fork-requires
fork-requires c =
    let w = c.requires in
    let left = left_height 2 c.args.slots.now c.args.at.number c.args.links w.s w.l w.c w.r w.xs w.ys w.can in
    let right = right_height 2 c.args.slots.now c.args.at.number c.args.links w.s w.l w.c w.r w.xs w.ys w.can in
    record {
      s = w.s;
      l = w.l;
      c = w.c;
      r = w.r;
      xs = w.xs;
      ys = w.ys;
      can = narrowed c.args.slots.now c.args.at.number c.args.links w.s w.l w.c w.r w.xs w.ys w.can
          (omega (arith, c.if-before-after.false, c.if-after-before.false, c.height_at-before.ensures, c.height_at-after.ensures, left, right), omega (arith, c.if-before-after.false, c.if-after-before.false, c.height_at-before.ensures, c.height_at-after.ensures, left, right));
    }

pub returns : goal.returns
returns c s l m r xs ys k =
    let left = left_height 2 c.args.slots.now c.args.at.number c.args.links s l m r xs ys k in
    let right = right_height 2 c.args.slots.now c.args.at.number c.args.links s l m r xs ys k in
    settled_fork c.fork.new.slots c.args.at.number s l m r xs ys
    (c.fork.ensures s l m r xs ys (narrowed c.args.slots.now c.args.at.number c.args.links s l m r xs ys k
    (omega (arith, c.if-before-after.false, c.if-after-before.false, c.height_at-before.ensures, c.height_at-after.ensures, left, right), omega (arith, c.if-before-after.false, c.if-after-before.false, c.height_at-before.ensures, c.height_at-after.ensures, left, right))))
