use Rattle.std.proofs.Common.{◌≤◌, ◌+◌, arith, List, [], ◌∷◌, ◌++◌}
use Rattle.std.specs.declared.cmp.Ordering.TheVariants.{Less, Equal, Greater}
use Rattle.cp_tree.proofs.Found.{no_length}
use Rattle.cp_tree_arena.specs.Shapes.{Cell, Shape, height_of, cells, edges_of}
use Rattle.cp_tree_arena.specs.Changes.{cut_under, CanCut}
use Rattle.cp_tree_arena.proofs.Sound.{link_within}
use Rattle.cp_tree_arena.proofs.Opening.{Opened, opened, falls_left, falls_children, falls_right}
use Rattle.cp_tree_arena.proofs.Cutting.{CutLink, cut_linked, cut_at, cut_some, old_side_of, cut_before, link_before, cut_after, link_after, join_here, cut_here, cut_below, link_below}
use Rattle.cp_tree_arena.proofs.change.+remove.Goals as goal
use Rattle.cp_tree_arena.proofs.change.+remove.Goals.{in-Less, in-Equal+in-Some, in-Greater, After-links_at-links, Joined-old_side}

-- the siblings, taken apart at their root
parts : (t : _) (c : goal.After-links_at-links t) (u : Shape) (xs ys : List Cell) → CanCut c.args.slots.now c.args.at.number c.args.place.now c.args.label.now u xs ys → Opened c.args.slots.now c.args.at.number u xs ys c.links_at-links.result
parts t c u xs ys k =
    opened c.args.slots.now c.args.at.number u xs ys c.links_at-links.result (cut_at c.args.slots.now c.args.at.number c.args.place.now c.args.label.now u xs ys k)
    (cut_some c.args.slots.now c.args.at.number c.args.place.now c.args.label.now u xs ys k) c.links_at-links.ensures

pub old_side-requires : goal.old_side-requires
old_side-requires t c =
    let w = c.requires in
    let f = parts t c w.t w.xs w.ys w.can in
    link_within 1 c.args.slots.now c.args.at.number c.links_at-links.result f.s f.l f.c f.r w.xs w.ys f.can

pub remove-removal-requires : goal.remove-removal-requires
remove-removal-requires t c =
    let w = c.requires in
    let slots = c.args.slots.now in
    let at = c.args.at.number in
    let p = c.args.place.now in
    let a = c.args.label.now in
    let links = c.links_at-links.result in
    let f = parts t (goal.at.remove-removal-requires t c).After-links_at-links w.t w.xs w.ys w.can in
    let lt = old_side_of slots at p a w.t w.xs w.ys w.can links f Less c.in-Less.ensures in (
      omega (arith, falls_left slots at w.t w.xs w.ys links (cut_at slots at p a w.t w.xs w.ys w.can) f),
      record { t = f.l; xs = w.xs; ys = (at, f.s) ∷ ((cells f.c ++ cells f.r) ++ w.ys); can = cut_before slots at p a w.t w.xs w.ys w.can links f lt },
    )

pub remove-removal-requires-in-Some : goal.remove-removal-requires-in-Some
remove-removal-requires-in-Some t c =
    let w = c.requires in
    let slots = c.args.slots.now in
    let at = c.args.at.number in
    let p = c.args.place.now in
    let a = c.args.label.now in
    let links = c.links_at-links.result in
    let f = parts t (goal.at.remove-removal-requires-in-Some t c).After-links_at-links w.t w.xs w.ys w.can in
    let eq = old_side_of slots at p a w.t w.xs w.ys w.can links f Equal c.in-Equal.ensures in (
      omega (arith, falls_children slots at w.t w.xs w.ys links (cut_at slots at p a w.t w.xs w.ys w.can) f),
      record { t = f.c; xs = w.xs ++ (cells f.l ++ (at, f.s) ∷ []); ys = cells f.r ++ w.ys; can = cut_below slots at p a w.t w.xs w.ys w.can links f c.in-Some._first.now c.in-Some.rest.now c.in-Some.ensures.cases.0 eq },
    )

pub remove-removal-requires-in-Greater : goal.remove-removal-requires-in-Greater
remove-removal-requires-in-Greater t c =
    let w = c.requires in
    let slots = c.args.slots.now in
    let at = c.args.at.number in
    let p = c.args.place.now in
    let a = c.args.label.now in
    let links = c.links_at-links.result in
    let f = parts t (goal.at.remove-removal-requires-in-Greater t c).After-links_at-links w.t w.xs w.ys w.can in
    let gt = old_side_of slots at p a w.t w.xs w.ys w.can links f Greater c.in-Greater.ensures in (
      omega (arith, falls_right slots at w.t w.xs w.ys links (cut_at slots at p a w.t w.xs w.ys w.can) f),
      record { t = f.r; xs = w.xs ++ (cells f.l ++ (at, f.s) ∷ cells f.c); ys = w.ys; can = cut_after slots at p a w.t w.xs w.ys w.can links f gt },
    )

pub join-requires : goal.join-requires
join-requires t c =
    let w = c.requires in
    let slots = c.args.slots.now in
    let at = c.args.at.number in
    let p = c.args.place.now in
    let a = c.args.label.now in
    let links = c.links_at-links.result in
    let f = parts t (goal.at.join-requires t c).After-links_at-links w.t w.xs w.ys w.can in
    let eq = old_side_of slots at p a w.t w.xs w.ys w.can links f Equal c.in-Equal.ensures in
    record { l = f.l; r = f.r; xs = w.xs; ys = ((at, f.s) ∷ cells f.c) ++ w.ys; can = join_here slots at p a w.t w.xs w.ys w.can links f (no_length p c.in-None.ensures.cases) eq }

pub returns-in-None : goal.returns-in-None
returns-in-None t c u xs ys k =
    let slots = c.args.slots.now in
    let at = c.args.at.number in
    let p = c.args.place.now in
    let a = c.args.label.now in
    let links = c.links_at-links.result in
    let f = parts t (goal.at.returns-in-None t c).After-links_at-links u xs ys k in
    let eq = old_side_of slots at p a u xs ys k links f Equal c.in-Equal.ensures in
    let none = no_length p c.in-None.ensures.cases in
    cut_here slots at p a u xs ys k links f none eq c.join.new.slots c.join.result.number (c.join.ensures f.l f.r xs (((at, f.s) ∷ cells f.c) ++ ys) (join_here slots at p a u xs ys k links f none eq))

-- the root is to be linked to the part that has changed
relink : (t : _) (c : goal.Joined-old_side t) (u : Shape) (xs ys : List Cell) → CanCut c.args.slots.now c.args.at.number c.args.place.now c.args.label.now u xs ys →
    Opened c.args.slots.now c.args.at.number u xs ys c.links_at-links.result →
    CutLink c.match-old_side.slots c.args.at.number c.match-old_side.gone.number c.match-old_side.links (cut_under c.args.place.now c.args.label.now (edges_of u)) (λ h. (h ≤ height_of u) × (height_of u ≤ h + 1)) xs ys
relink t c u xs ys k f =
    let slots = c.args.slots.now in
    let at = c.args.at.number in
    let p = c.args.place.now in
    let a = c.args.label.now in
    let links = c.links_at-links.result in
    elim c.match-old_side.branch [
      | in-Less w ↦ (
          let lt = old_side_of slots at p a u xs ys k links f Less w.in-Less.ensures in
          let st = w.remove-removal.ensures f.l xs ((at, f.s) ∷ ((cells f.c ++ cells f.r) ++ ys)) (cut_before slots at p a u xs ys k links f lt) in
          rw (w.slots-is, w.links-is, w.gone-is) (link_before slots at p a u xs ys k links f lt w.remove-removal.new.slots w.remove-removal.result.root w.remove-removal.result.gone.number st))
      | in-Equal+in-Some w ↦ (
          let eq = old_side_of slots at p a u xs ys k links f Equal w.in-Equal.ensures in
          let first = w.in-Some._first.now in
          let rest = w.in-Some.rest.now in
          let st = w.remove-removal-in-Some.ensures f.c (xs ++ (cells f.l ++ (at, f.s) ∷ [])) (cells f.r ++ ys) (cut_below slots at p a u xs ys k links f first rest w.in-Some.ensures.cases.0 eq) in
          rw (w.slots-is, w.links-is, w.gone-is) (link_below slots at p a u xs ys k links f first rest w.in-Some.ensures.cases.0 eq w.remove-removal-in-Some.new.slots w.remove-removal-in-Some.result.root w.remove-removal-in-Some.result.gone.number st))
      | in-Greater w ↦ (
          let gt = old_side_of slots at p a u xs ys k links f Greater w.in-Greater.ensures in
          let st = w.remove-removal-in-Greater.ensures f.r (xs ++ (cells f.l ++ (at, f.s) ∷ cells f.c)) ys (cut_after slots at p a u xs ys k links f gt) in
          rw (w.slots-is, w.links-is, w.gone-is) (link_after slots at p a u xs ys k links f gt w.remove-removal-in-Greater.new.slots w.remove-removal-in-Greater.result.root w.remove-removal-in-Greater.result.gone.number st))
    ]

pub balance-requires : goal.balance-requires
balance-requires t c =
    let w = c.requires in
    let x = goal.at.balance-requires t c in
    let j = relink t x.Joined-old_side w.t w.xs w.ys w.can (parts t x.After-links_at-links w.t w.xs w.ys w.can) in
    record { s = j.s; l = j.l; c = j.c; r = j.r; xs = w.xs; ys = ((c.match-old_side.gone.number, j.out) ∷ cells j.under) ++ w.ys; can = j.can }

pub returns : goal.returns
returns t c u xs ys k =
    let x = goal.at.returns t c in
    let j = relink t x.Joined-old_side u xs ys k (parts t x.After-links_at-links u xs ys k) in
    let gone = c.match-old_side.gone.number in
    cut_linked c.match-old_side.slots c.args.at.number gone c.match-old_side.links (cut_under c.args.place.now c.args.label.now (edges_of u)) (λ h. (h ≤ height_of u) × (height_of u ≤ h + 1)) xs ys j
    c.balance.new.slots c.balance.result.number (c.balance.ensures j.s j.l j.c j.r xs (((gone, j.out) ∷ cells j.under) ++ ys) j.can)
