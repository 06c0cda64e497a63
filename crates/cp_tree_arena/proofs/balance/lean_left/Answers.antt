use Rattle.std.proofs.Common.{◌≤◌, ◌<◌, arith, ◌∷◌, ◌++◌, slice_get}
use Rattle.cp_tree_arena.specs.Slots.{height_in}
use Rattle.cp_tree_arena.specs.Shapes.{cells}
use Rattle.cp_tree_arena.proofs.LeaningLeft.{left_top, left_once_first, left_once_second, left_once, left_middle, left_twice_first, left_twice_second, left_twice_third, left_twice}
use Rattle.cp_tree_arena.proofs.balance.lean_left.Goals as goal

pub fork-requires : goal.fork-requires
fork-requires c =
    let slots = c.args.slots.now in
    let id = c.args.at in
    let links = c.args.links in
    let outer = c.links_at-outer.result in
    let w = c.requires.linkable in
    let f = left_top slots id links w.s w.l w.c w.r w.xs w.ys outer w.can c.requires.two_higher c.links_at-outer.ensures in
    let le : height_in (slice_get slots outer.right.number) ≤ height_in (slice_get slots outer.left.number) = omega (arith, c.if-height_at.true, c.height_at.ensures, c.height_at-2.ensures) in
    record { s = w.s; l = f.lr; c = w.c; r = w.r; xs = w.xs ++ (cells f.ll ++ (links.left.number, f.sl) ∷ cells f.cl); ys = w.ys; can = left_once_first slots id links w.s w.l w.c w.r w.xs w.ys outer f le }

pub fork-requires-then-height_at : goal.fork-requires-then-height_at
fork-requires-then-height_at c =
    let slots = c.args.slots.now in
    let id = c.args.at in
    let links = c.args.links in
    let outer = c.links_at-outer.result in
    let w = c.requires.linkable in
    let f = left_top slots id links w.s w.l w.c w.r w.xs w.ys outer w.can c.requires.two_higher c.links_at-outer.ensures in
    let le : height_in (slice_get slots outer.right.number) ≤ height_in (slice_get slots outer.left.number) = omega (arith, c.if-height_at.true, c.height_at.ensures, c.height_at-2.ensures) in
    let st = c.fork.ensures w.s f.lr w.c w.r (w.xs ++ (cells f.ll ++ (links.left.number, f.sl) ∷ cells f.cl)) w.ys (left_once_first slots id links w.s w.l w.c w.r w.xs w.ys outer f le) in
    record { s = f.sl; l = f.ll; c = f.cl; r = st.shape; xs = w.xs; ys = w.ys; can = left_once_second slots id links w.s w.l w.c w.r w.xs w.ys outer f le c.fork.new.slots st }

pub returns-then-height_at : goal.returns-then-height_at
returns-then-height_at c s l m r xs ys k =
    let slots = c.args.slots.now in
    let id = c.args.at in
    let links = c.args.links in
    let outer = c.links_at-outer.result in
    let f = left_top slots id links s l m r xs ys outer k c.requires.two_higher c.links_at-outer.ensures in
    let le : height_in (slice_get slots outer.right.number) ≤ height_in (slice_get slots outer.left.number) = omega (arith, c.if-height_at.true, c.height_at.ensures, c.height_at-2.ensures) in
    let st = c.fork.ensures s f.lr m r (xs ++ (cells f.ll ++ (links.left.number, f.sl) ∷ cells f.cl)) ys (left_once_first slots id links s l m r xs ys outer f le) in
    let last = c.fork-then-height_at.ensures f.sl f.ll f.cl st.shape xs ys (left_once_second slots id links s l m r xs ys outer f le c.fork.new.slots st) in
    left_once slots id links s l m r xs ys outer f le c.fork.new.slots st c.fork-then-height_at.new.slots last

pub fork-requires-2 : goal.fork-requires-2
fork-requires-2 c =
    let slots = c.args.slots.now in
    let id = c.args.at in
    let links = c.args.links in
    let outer = c.links_at-outer.result in
    let inner = c.links_at-inner.result in
    let w = c.requires.linkable in
    let f = left_top slots id links w.s w.l w.c w.r w.xs w.ys outer w.can c.requires.two_higher c.links_at-outer.ensures in
    let lt : height_in (slice_get slots outer.left.number) < height_in (slice_get slots outer.right.number) = omega (arith, c.if-height_at.false, c.height_at.ensures, c.height_at-2.ensures) in
    let m = left_middle slots id links w.s w.l w.c w.r w.xs w.ys outer f inner lt c.links_at-inner.ensures in
    record { s = f.sl; l = f.ll; c = f.cl; r = m.ml; xs = w.xs; ys = (outer.right.number, m.sm) ∷ ((cells m.cm ++ cells m.mr) ++ ((id.number, w.s) ∷ ((cells w.c ++ cells w.r) ++ w.ys))); can = left_twice_first slots id links w.s w.l w.c w.r w.xs w.ys outer f inner m lt }

pub fork-requires-3 : goal.fork-requires-3
fork-requires-3 c =
    let slots = c.args.slots.now in
    let id = c.args.at in
    let links = c.args.links in
    let outer = c.links_at-outer.result in
    let inner = c.links_at-inner.result in
    let w = c.requires.linkable in
    let f = left_top slots id links w.s w.l w.c w.r w.xs w.ys outer w.can c.requires.two_higher c.links_at-outer.ensures in
    let lt : height_in (slice_get slots outer.left.number) < height_in (slice_get slots outer.right.number) = omega (arith, c.if-height_at.false, c.height_at.ensures, c.height_at-2.ensures) in
    let m = left_middle slots id links w.s w.l w.c w.r w.xs w.ys outer f inner lt c.links_at-inner.ensures in
    let one = c.fork-2.ensures f.sl f.ll f.cl m.ml w.xs ((outer.right.number, m.sm) ∷ ((cells m.cm ++ cells m.mr) ++ ((id.number, w.s) ∷ ((cells w.c ++ cells w.r) ++ w.ys)))) (left_twice_first slots id links w.s w.l w.c w.r w.xs w.ys outer f inner m lt) in
    record { s = w.s; l = m.mr; c = w.c; r = w.r; xs = w.xs ++ (cells one.shape ++ (outer.right.number, m.sm) ∷ cells m.cm); ys = w.ys; can = left_twice_second slots id links w.s w.l w.c w.r w.xs w.ys outer f inner m lt c.fork-2.new.slots one }

pub fork-requires-4 : goal.fork-requires-4
fork-requires-4 c =
    let slots = c.args.slots.now in
    let id = c.args.at in
    let links = c.args.links in
    let outer = c.links_at-outer.result in
    let inner = c.links_at-inner.result in
    let w = c.requires.linkable in
    let f = left_top slots id links w.s w.l w.c w.r w.xs w.ys outer w.can c.requires.two_higher c.links_at-outer.ensures in
    let lt : height_in (slice_get slots outer.left.number) < height_in (slice_get slots outer.right.number) = omega (arith, c.if-height_at.false, c.height_at.ensures, c.height_at-2.ensures) in
    let m = left_middle slots id links w.s w.l w.c w.r w.xs w.ys outer f inner lt c.links_at-inner.ensures in
    let one = c.fork-2.ensures f.sl f.ll f.cl m.ml w.xs ((outer.right.number, m.sm) ∷ ((cells m.cm ++ cells m.mr) ++ ((id.number, w.s) ∷ ((cells w.c ++ cells w.r) ++ w.ys)))) (left_twice_first slots id links w.s w.l w.c w.r w.xs w.ys outer f inner m lt) in
    let two = c.fork-3.ensures w.s m.mr w.c w.r (w.xs ++ (cells one.shape ++ (outer.right.number, m.sm) ∷ cells m.cm)) w.ys (left_twice_second slots id links w.s w.l w.c w.r w.xs w.ys outer f inner m lt c.fork-2.new.slots one) in
    record { s = m.sm; l = one.shape; c = m.cm; r = two.shape; xs = w.xs; ys = w.ys; can = left_twice_third slots id links w.s w.l w.c w.r w.xs w.ys outer f inner m lt c.fork-2.new.slots one c.fork-3.new.slots two }

pub returns : goal.returns
returns c s l b r xs ys k =
    let slots = c.args.slots.now in
    let id = c.args.at in
    let links = c.args.links in
    let outer = c.links_at-outer.result in
    let inner = c.links_at-inner.result in
    let f = left_top slots id links s l b r xs ys outer k c.requires.two_higher c.links_at-outer.ensures in
    let lt : height_in (slice_get slots outer.left.number) < height_in (slice_get slots outer.right.number) = omega (arith, c.if-height_at.false, c.height_at.ensures, c.height_at-2.ensures) in
    let m = left_middle slots id links s l b r xs ys outer f inner lt c.links_at-inner.ensures in
    let one = c.fork-2.ensures f.sl f.ll f.cl m.ml xs ((outer.right.number, m.sm) ∷ ((cells m.cm ++ cells m.mr) ++ ((id.number, s) ∷ ((cells b ++ cells r) ++ ys)))) (left_twice_first slots id links s l b r xs ys outer f inner m lt) in
    let two = c.fork-3.ensures s m.mr b r (xs ++ (cells one.shape ++ (outer.right.number, m.sm) ∷ cells m.cm)) ys (left_twice_second slots id links s l b r xs ys outer f inner m lt c.fork-2.new.slots one) in
    let last = c.fork-4.ensures m.sm one.shape m.cm two.shape xs ys (left_twice_third slots id links s l b r xs ys outer f inner m lt c.fork-2.new.slots one c.fork-3.new.slots two) in
    left_twice slots id links s l b r xs ys outer f inner m lt c.fork-2.new.slots one c.fork-3.new.slots two c.fork-4.new.slots last
