use Rattle.std.proofs.Common.{arith, [], ◌∷◌, ◌++◌}
use Rattle.std.specs.Prelude.{is_ok}
use Rattle.cp_tree_arena.specs.Shapes.{cells}
use Rattle.cp_tree_arena.proofs.Sound.{link_left, link_children, link_right}
use Rattle.cp_tree_arena.proofs.Opening.{falls_left, falls_children, falls_right}
use Rattle.cp_tree_arena.proofs.Pooled.{pool_pushed, pool_none, pool_opened, pool_left, pool_children, pool_right, kept_opened}
use Rattle.cp_tree_arena.proofs.pool.+free_all.Goals as goal

pub free_all-requires : goal.free_all-requires
free_all-requires t c =
    let w = c.requires in
    let slots = c.args.slots.now in
    let at = c.args.at.number in
    let s = c.in-Some.slot.now in
    let f = kept_opened slots at w.shape w.xs w.ys w.is s c.in-Some.ensures.there in (
      omega (arith, falls_left slots at w.shape w.xs w.ys s.links w.is f),
      record { shape = f.l; xs = w.xs; ys = (at, f.s) ∷ ((cells f.c ++ cells f.r) ++ w.ys); is = link_left 1 slots at s.links f.s f.l f.c f.r w.xs w.ys f.can },
    )

pub free_all-requires-in-Some : goal.free_all-requires-in-Some
free_all-requires-in-Some t c =
    let w = c.requires in
    let slots = c.args.slots.now in
    let at = c.args.at.number in
    let s = c.in-Some.slot.now in
    let f = kept_opened slots at w.shape w.xs w.ys w.is s c.in-Some.ensures.there in (
      omega (arith, falls_children slots at w.shape w.xs w.ys s.links w.is f),
      record { shape = f.c; xs = w.xs ++ (cells f.l ++ (at, f.s) ∷ []); ys = cells f.r ++ w.ys; is = link_children 1 slots at s.links f.s f.l f.c f.r w.xs w.ys f.can },
    )

pub free_all-requires-in-Some-2 : goal.free_all-requires-in-Some-2
free_all-requires-in-Some-2 t c =
    let w = c.requires in
    let slots = c.args.slots.now in
    let at = c.args.at.number in
    let s = c.in-Some.slot.now in
    let f = kept_opened slots at w.shape w.xs w.ys w.is s c.in-Some.ensures.there in (
      omega (arith, falls_right slots at w.shape w.xs w.ys s.links w.is f),
      record { shape = f.r; xs = w.xs ++ (cells f.l ++ (at, f.s) ∷ cells f.c); ys = w.ys; is = link_right 1 slots at s.links f.s f.l f.c f.r w.xs w.ys f.can },
    )

pub returns-in-Some : goal.returns-in-Some
returns-in-Some t c u cs root sound p =
    let slots = c.args.slots.now in
    let free = c.args.free.now.items in
    let at = c.args.at.number in
    let s = c.in-Some.slot.now in
    let there = c.in-Some.ensures.there in
    let f = pool_opened slots free at u cs root sound p s there in
    let left = c.free_all.ensures f.l (((at, f.s) ∷ (cells f.c ++ cells f.r)) ++ cs) f.can.left f.can.before (pool_left slots free at u cs root sound p s there f) in
    let below = c.free_all-in-Some.ensures f.c ((at, f.s) ∷ (cells f.r ++ cs)) f.can.children f.can.below (pool_children slots free at u cs root sound p s there f c.free_all.new.free.items left) in
    let right = c.free_all-in-Some-2.ensures f.r ((at, f.s) ∷ cs) f.can.right f.can.after (pool_right slots free at u cs root sound p s there f c.free_all-in-Some.new.free.items below) in
    pool_pushed slots c.free_all-in-Some-2.new.free.items c.push.new.self.items c.args.at f.s cs (is_ok c.push.result) c.push.ensures.items right

pub returns-in_default : goal.returns-in_default
returns-in_default t c u cs root sound p = pool_none c.args.slots.now c.args.free.now.items c.args.at.number u cs root sound p c.in_default.ensures.gone
