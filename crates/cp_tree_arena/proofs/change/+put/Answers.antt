use Rattle.std.proofs.Common.{◌≡◌, ◌≢◌, ◌≤◌, ◌+◌, ◌∙◌, sym, arith, List, [], ◌∷◌, ◌++◌, eqb, eqb-true, eq-eqb, true}
use Rattle.std.proofs.lemmas.Bool.{false≢true}
use Rattle.std.specs.declared.cmp.Ordering.TheVariants.{Less, Equal, Greater}
use Rattle.cp_tree.specs.Branch.{branch}
use Rattle.cp_tree_arena.specs.declared.slot.Slot.{Slot}
use Rattle.cp_tree_arena.specs.Slots.{NO_SLOT}
use Rattle.cp_tree.proofs.Found.{no_length}
use Rattle.cp_tree_arena.specs.Shapes.{Cell, Shape, height_of, cells, edges_of}
use Rattle.cp_tree_arena.specs.Changes.{put_under, CanPut}
use Rattle.cp_tree_arena.proofs.Sound.{link_within}
use Rattle.cp_tree_arena.proofs.Opening.{Opened, opened, full_of, falls_left, falls_children, falls_right}
use Rattle.cp_tree_arena.proofs.Putting.{Relinked, relinked, put_at, side_of, new_within, put_alone, put_before, relinked_before, put_after, relinked_after, put_none, put_below, relinked_below}
use Rattle.cp_tree_arena.proofs.change.+put.Goals as goal
use Rattle.cp_tree_arena.proofs.change.+put.Goals.{in-Less, in-Equal+in-Some, in-Greater, After-links_at-links, Joined-new_side}

pub returns-then-is_none : goal.returns-then-is_none
returns-then-is_none t c s m u xs ys k =
    put_alone c.args.slots.now c.args.at.number c.args.new.number c.args.place.now s m u xs ys k (eqb-true c.args.at.number NO_SLOT (sym c.is_none.ensures ∙ c.if-is_none.true))

-- the siblings, taken apart at their root
parts : (t : _) (c : goal.After-links_at-links t) (s : Slot) (m u : Shape) (xs ys : List Cell) → CanPut c.args.slots.now c.args.at.number c.args.new.number c.args.place.now s m u xs ys →
    Opened c.args.slots.now c.args.at.number u xs (((c.args.new.number, s) ∷ cells m) ++ ys) c.links_at-links.result
parts t c s m u xs ys k =
    let some : c.args.at.number ≢ NO_SLOT = λ e. (let yes : eqb c.args.at.number NO_SLOT ≡ true = eq-eqb c.args.at.number NO_SLOT e in let no = sym c.is_none.ensures ∙ c.if-is_none.false in cc) in
    let at = put_at c.args.slots.now c.args.at.number c.args.new.number c.args.place.now s m u xs ys k in
    let after : List Cell = ((c.args.new.number, s) ∷ cells m) ++ ys in
    opened c.args.slots.now c.args.at.number u xs after c.links_at-links.result at (full_of c.args.slots.now c.args.at.number u xs after at some) c.links_at-links.ensures

pub new_side-requires-clause-at : goal.new_side-requires-clause-at
new_side-requires-clause-at t c =
    let w = c.requires in
    let f = parts t c w.s w.c w.t w.xs w.ys w.can in
    link_within 1 c.args.slots.now c.args.at.number c.links_at-links.result f.s f.l f.c f.r w.xs (((c.args.new.number, w.s) ∷ cells w.c) ++ w.ys) f.can

pub new_side-requires-clause-new : goal.new_side-requires-clause-new
new_side-requires-clause-new t c = let w = c.requires in new_within c.args.slots.now c.args.at.number c.args.new.number c.args.place.now w.s w.c w.t w.xs w.ys w.can

pub put-links-requires : goal.put-links-requires
put-links-requires t c =
    let w = c.requires in
    let slots = c.args.slots.now in
    let at = c.args.at.number in
    let new = c.args.new.number in
    let p = c.args.place.now in
    let links = c.links_at-links.result in
    let f = parts t (goal.at.put-links-requires t c).After-links_at-links w.s w.c w.t w.xs w.ys w.can in
    let lt = side_of slots at new p w.s w.c w.t w.xs w.ys w.can links f Less c.in-Less.ensures in (
      omega (arith, falls_left slots at w.t w.xs (((new, w.s) ∷ cells w.c) ++ w.ys) links (put_at slots at new p w.s w.c w.t w.xs w.ys w.can) f),
      record { s = w.s; c = w.c; t = f.l; xs = w.xs; ys = (at, f.s) ∷ ((cells f.c ++ cells f.r) ++ w.ys); can = put_before slots at new p w.s w.c w.t w.xs w.ys w.can links f lt },
    )

pub put-links-requires-in-Some : goal.put-links-requires-in-Some
put-links-requires-in-Some t c =
    let w = c.requires in
    let slots = c.args.slots.now in
    let at = c.args.at.number in
    let new = c.args.new.number in
    let p = c.args.place.now in
    let links = c.links_at-links.result in
    let f = parts t (goal.at.put-links-requires-in-Some t c).After-links_at-links w.s w.c w.t w.xs w.ys w.can in
    let eq = side_of slots at new p w.s w.c w.t w.xs w.ys w.can links f Equal c.in-Equal.ensures in (
      omega (arith, falls_children slots at w.t w.xs (((new, w.s) ∷ cells w.c) ++ w.ys) links (put_at slots at new p w.s w.c w.t w.xs w.ys w.can) f),
      record { s = w.s; c = w.c; t = f.c; xs = w.xs ++ (cells f.l ++ (at, f.s) ∷ []); ys = cells f.r ++ w.ys; can = put_below slots at new p w.s w.c w.t w.xs w.ys w.can links f c.in-Some._first.now c.in-Some.rest.now c.in-Some.ensures.cases.0 eq },
    )

pub unreachable-requires : goal.unreachable-requires
unreachable-requires t c =
    let w = c.requires in
    let f = parts t (goal.at.unreachable-requires t c).After-links_at-links w.s w.c w.t w.xs w.ys w.can in
    let eq = side_of c.args.slots.now c.args.at.number c.args.new.number c.args.place.now w.s w.c w.t w.xs w.ys w.can c.links_at-links.result f Equal c.in-Equal.ensures in
    false≢true (put_none c.args.slots.now c.args.at.number c.args.new.number c.args.place.now w.s w.c w.t w.xs w.ys w.can c.links_at-links.result f (no_length c.args.place.now c.in-None.ensures.cases) eq)

pub put-links-requires-in-Greater : goal.put-links-requires-in-Greater
put-links-requires-in-Greater t c =
    let w = c.requires in
    let slots = c.args.slots.now in
    let at = c.args.at.number in
    let new = c.args.new.number in
    let p = c.args.place.now in
    let links = c.links_at-links.result in
    let f = parts t (goal.at.put-links-requires-in-Greater t c).After-links_at-links w.s w.c w.t w.xs w.ys w.can in
    let gt = side_of slots at new p w.s w.c w.t w.xs w.ys w.can links f Greater c.in-Greater.ensures in (
      omega (arith, falls_right slots at w.t w.xs (((new, w.s) ∷ cells w.c) ++ w.ys) links (put_at slots at new p w.s w.c w.t w.xs w.ys w.can) f),
      record { s = w.s; c = w.c; t = f.r; xs = w.xs ++ (cells f.l ++ (at, f.s) ∷ cells f.c); ys = w.ys; can = put_after slots at new p w.s w.c w.t w.xs w.ys w.can links f gt },
    )

-- the root is to be linked to the part that has changed
relink : (t : _) (c : goal.Joined-new_side t) (s : Slot) (m u : Shape) (xs ys : List Cell) → CanPut c.args.slots.now c.args.at.number c.args.new.number c.args.place.now s m u xs ys →
    Opened c.args.slots.now c.args.at.number u xs (((c.args.new.number, s) ∷ cells m) ++ ys) c.links_at-links.result →
    Relinked c.match-new_side.slots c.args.at.number c.match-new_side.links (put_under c.args.place.now s.label (branch s.content (edges_of m)) (edges_of u)) (λ h. (height_of u ≤ h) × (h ≤ height_of u + 1)) xs ys
relink t c s m u xs ys k f =
    let slots = c.args.slots.now in
    let at = c.args.at.number in
    let new = c.args.new.number in
    let p = c.args.place.now in
    let links = c.links_at-links.result in
    elim c.match-new_side.branch [
      | in-Less w ↦ (
          let lt = side_of slots at new p s m u xs ys k links f Less w.in-Less.ensures in
          let st = w.put-links.ensures s m f.l xs ((at, f.s) ∷ ((cells f.c ++ cells f.r) ++ ys)) (put_before slots at new p s m u xs ys k links f lt) in
          rw (w.slots-is, w.links-is) (relinked_before slots at new p s m u xs ys k links f lt w.put-links.new.slots w.put-links.result st))
      | in-Equal+in-Some w ↦ (
          let eq = side_of slots at new p s m u xs ys k links f Equal w.in-Equal.ensures in
          let first = w.in-Some._first.now in
          let rest = w.in-Some.rest.now in
          let st = w.put-links-in-Some.ensures s m f.c (xs ++ (cells f.l ++ (at, f.s) ∷ [])) (cells f.r ++ ys) (put_below slots at new p s m u xs ys k links f first rest w.in-Some.ensures.cases.0 eq) in
          rw (w.slots-is, w.links-is) (relinked_below slots at new p s m u xs ys k links f first rest w.in-Some.ensures.cases.0 eq w.put-links-in-Some.new.slots w.put-links-in-Some.result st))
      | in-Greater w ↦ (
          let gt = side_of slots at new p s m u xs ys k links f Greater w.in-Greater.ensures in
          let st = w.put-links-in-Greater.ensures s m f.r (xs ++ (cells f.l ++ (at, f.s) ∷ cells f.c)) ys (put_after slots at new p s m u xs ys k links f gt) in
          rw (w.slots-is, w.links-is) (relinked_after slots at new p s m u xs ys k links f gt w.put-links-in-Greater.new.slots w.put-links-in-Greater.result st))
    ]

pub balance-requires : goal.balance-requires
balance-requires t c =
    let w = c.requires in
    let x = goal.at.balance-requires t c in
    let j = relink t x.Joined-new_side w.s w.c w.t w.xs w.ys w.can (parts t x.After-links_at-links w.s w.c w.t w.xs w.ys w.can) in
    record { s = j.s; l = j.l; c = j.c; r = j.r; xs = w.xs; ys = w.ys; can = j.can }

pub returns : goal.returns
returns t c s m u xs ys k =
    let x = goal.at.returns t c in
    let j = relink t x.Joined-new_side s m u xs ys k (parts t x.After-links_at-links s m u xs ys k) in
    relinked c.match-new_side.slots c.args.at.number c.match-new_side.links (put_under c.args.place.now s.label (branch s.content (edges_of m)) (edges_of u)) (λ h. (height_of u ≤ h) × (h ≤ height_of u + 1)) xs ys j
    c.balance.new.slots c.balance.result.number (c.balance.ensures j.s j.l j.c j.r xs ys j.can)
