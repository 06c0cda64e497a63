use Rattle.std.proofs.Common.{◌≤◌, ◌<◌, arith, ◌∷◌, ◌++◌, slice_get}
use Rattle.cp_tree_arena.specs.Slots.{height_in}
use Rattle.cp_tree_arena.specs.Shapes.{cells}
use Rattle.cp_tree_arena.proofs.LeaningRight.{right_top, right_once_first, right_once_second, right_once, right_middle, right_twice_first, right_twice_second, right_twice_third, right_twice}
use Rattle.cp_tree_arena.proofs.balance.lean_right.Goals as goal

pub fork-requires : goal.fork-requires
fork-requires c =
    let slots = c.args.slots.now in
    let id = c.args.at in
    let links = c.args.links in
    let outer = c.links_at-outer.result in
    let w = c.requires.linkable in
    let f = right_top slots id links w.s w.l w.c w.r w.xs w.ys outer w.can c.requires.two_higher c.links_at-outer.ensures in
    let le : height_in (slice_get slots outer.left.number) ≤ height_in (slice_get slots outer.right.number) = omega (arith, c.if-height_at.true, c.height_at.ensures, c.height_at-2.ensures) in
    record { s = w.s; l = w.l; c = w.c; r = f.rl; xs = w.xs; ys = (links.right.number, f.sr) ∷ ((cells f.cr ++ cells f.rr) ++ w.ys); can = right_once_first slots id links w.s w.l w.c w.r w.xs w.ys outer f le }

pub fork-requires-then-height_at : goal.fork-requires-then-height_at
fork-requires-then-height_at c =
    let slots = c.args.slots.now in
    let id = c.args.at in
    let links = c.args.links in
    let outer = c.links_at-outer.result in
    let w = c.requires.linkable in
    let f = right_top slots id links w.s w.l w.c w.r w.xs w.ys outer w.can c.requires.two_higher c.links_at-outer.ensures in
    let le : height_in (slice_get slots outer.left.number) ≤ height_in (slice_get slots outer.right.number) = omega (arith, c.if-height_at.true, c.height_at.ensures, c.height_at-2.ensures) in
    let st = c.fork.ensures w.s w.l w.c f.rl w.xs ((links.right.number, f.sr) ∷ ((cells f.cr ++ cells f.rr) ++ w.ys)) (right_once_first slots id links w.s w.l w.c w.r w.xs w.ys outer f le) in
    record { s = f.sr; l = st.shape; c = f.cr; r = f.rr; xs = w.xs; ys = w.ys; can = right_once_second slots id links w.s w.l w.c w.r w.xs w.ys outer f le c.fork.new.slots st }

pub returns-then-height_at : goal.returns-then-height_at
returns-then-height_at c s l m r xs ys k =
    let slots = c.args.slots.now in
    let id = c.args.at in
    let links = c.args.links in
    let outer = c.links_at-outer.result in
    let f = right_top slots id links s l m r xs ys outer k c.requires.two_higher c.links_at-outer.ensures in
    let le : height_in (slice_get slots outer.left.number) ≤ height_in (slice_get slots outer.right.number) = omega (arith, c.if-height_at.true, c.height_at.ensures, c.height_at-2.ensures) in
    let st = c.fork.ensures s l m f.rl xs ((links.right.number, f.sr) ∷ ((cells f.cr ++ cells f.rr) ++ ys)) (right_once_first slots id links s l m r xs ys outer f le) in
    let last = c.fork-then-height_at.ensures f.sr st.shape f.cr f.rr xs ys (right_once_second slots id links s l m r xs ys outer f le c.fork.new.slots st) in
    right_once slots id links s l m r xs ys outer f le c.fork.new.slots st c.fork-then-height_at.new.slots last

pub fork-requires-2 : goal.fork-requires-2
fork-requires-2 c =
    let slots = c.args.slots.now in
    let id = c.args.at in
    let links = c.args.links in
    let outer = c.links_at-outer.result in
    let inner = c.links_at-inner.result in
    let w = c.requires.linkable in
    let f = right_top slots id links w.s w.l w.c w.r w.xs w.ys outer w.can c.requires.two_higher c.links_at-outer.ensures in
    let lt : height_in (slice_get slots outer.right.number) < height_in (slice_get slots outer.left.number) = omega (arith, c.if-height_at.false, c.height_at.ensures, c.height_at-2.ensures) in
    let m = right_middle slots id links w.s w.l w.c w.r w.xs w.ys outer f inner lt c.links_at-inner.ensures in
    record { s = w.s; l = w.l; c = w.c; r = m.ml; xs = w.xs; ys = (outer.left.number, m.sm) ∷ ((cells m.cm ++ cells m.mr) ++ ((links.right.number, f.sr) ∷ ((cells f.cr ++ cells f.rr) ++ w.ys))); can = right_twice_first slots id links w.s w.l w.c w.r w.xs w.ys outer f inner m lt }

pub fork-requires-3 : goal.fork-requires-3
fork-requires-3 c =
    let slots = c.args.slots.now in
    let id = c.args.at in
    let links = c.args.links in
    let outer = c.links_at-outer.result in
    let inner = c.links_at-inner.result in
    let w = c.requires.linkable in
    let f = right_top slots id links w.s w.l w.c w.r w.xs w.ys outer w.can c.requires.two_higher c.links_at-outer.ensures in
    let lt : height_in (slice_get slots outer.right.number) < height_in (slice_get slots outer.left.number) = omega (arith, c.if-height_at.false, c.height_at.ensures, c.height_at-2.ensures) in
    let m = right_middle slots id links w.s w.l w.c w.r w.xs w.ys outer f inner lt c.links_at-inner.ensures in
    let one = c.fork-2.ensures w.s w.l w.c m.ml w.xs ((outer.left.number, m.sm) ∷ ((cells m.cm ++ cells m.mr) ++ ((links.right.number, f.sr) ∷ ((cells f.cr ++ cells f.rr) ++ w.ys)))) (right_twice_first slots id links w.s w.l w.c w.r w.xs w.ys outer f inner m lt) in
    record { s = f.sr; l = m.mr; c = f.cr; r = f.rr; xs = w.xs ++ (cells one.shape ++ (outer.left.number, m.sm) ∷ cells m.cm); ys = w.ys; can = right_twice_second slots id links w.s w.l w.c w.r w.xs w.ys outer f inner m lt c.fork-2.new.slots one }

pub fork-requires-4 : goal.fork-requires-4
fork-requires-4 c =
    let slots = c.args.slots.now in
    let id = c.args.at in
    let links = c.args.links in
    let outer = c.links_at-outer.result in
    let inner = c.links_at-inner.result in
    let w = c.requires.linkable in
    let f = right_top slots id links w.s w.l w.c w.r w.xs w.ys outer w.can c.requires.two_higher c.links_at-outer.ensures in
    let lt : height_in (slice_get slots outer.right.number) < height_in (slice_get slots outer.left.number) = omega (arith, c.if-height_at.false, c.height_at.ensures, c.height_at-2.ensures) in
    let m = right_middle slots id links w.s w.l w.c w.r w.xs w.ys outer f inner lt c.links_at-inner.ensures in
    let one = c.fork-2.ensures w.s w.l w.c m.ml w.xs ((outer.left.number, m.sm) ∷ ((cells m.cm ++ cells m.mr) ++ ((links.right.number, f.sr) ∷ ((cells f.cr ++ cells f.rr) ++ w.ys)))) (right_twice_first slots id links w.s w.l w.c w.r w.xs w.ys outer f inner m lt) in
    let two = c.fork-3.ensures f.sr m.mr f.cr f.rr (w.xs ++ (cells one.shape ++ (outer.left.number, m.sm) ∷ cells m.cm)) w.ys (right_twice_second slots id links w.s w.l w.c w.r w.xs w.ys outer f inner m lt c.fork-2.new.slots one) in
    record { s = m.sm; l = one.shape; c = m.cm; r = two.shape; xs = w.xs; ys = w.ys; can = right_twice_third slots id links w.s w.l w.c w.r w.xs w.ys outer f inner m lt c.fork-2.new.slots one c.fork-3.new.slots two }

pub returns : goal.returns
returns c s l b r xs ys k =
    let slots = c.args.slots.now in
    let id = c.args.at in
    let links = c.args.links in
    let outer = c.links_at-outer.result in
    let inner = c.links_at-inner.result in
    let f = right_top slots id links s l b r xs ys outer k c.requires.two_higher c.links_at-outer.ensures in
    let lt : height_in (slice_get slots outer.right.number) < height_in (slice_get slots outer.left.number) = omega (arith, c.if-height_at.false, c.height_at.ensures, c.height_at-2.ensures) in
    let m = right_middle slots id links s l b r xs ys outer f inner lt c.links_at-inner.ensures in
    let one = c.fork-2.ensures s l b m.ml xs ((outer.left.number, m.sm) ∷ ((cells m.cm ++ cells m.mr) ++ ((links.right.number, f.sr) ∷ ((cells f.cr ++ cells f.rr) ++ ys)))) (right_twice_first slots id links s l b r xs ys outer f inner m lt) in
    let two = c.fork-3.ensures f.sr m.mr f.cr f.rr (xs ++ (cells one.shape ++ (outer.left.number, m.sm) ∷ cells m.cm)) ys (right_twice_second slots id links s l b r xs ys outer f inner m lt c.fork-2.new.slots one) in
    let last = c.fork-4.ensures m.sm one.shape m.cm two.shape xs ys (right_twice_third slots id links s l b r xs ys outer f inner m lt c.fork-2.new.slots one c.fork-3.new.slots two) in
    right_twice slots id links s l b r xs ys outer f inner m lt c.fork-2.new.slots one c.fork-3.new.slots two c.fork-4.new.slots last
