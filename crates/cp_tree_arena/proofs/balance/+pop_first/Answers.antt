use Rattle.std.proofs.Common.{◌≡◌, ◌≢◌, ◌∙◌, sym, arith, ◌∷◌, ◌++◌, eqb, eqb-true, eq-eqb, true}
use Rattle.cp_tree_arena.specs.Slots.{NO_SLOT}
use Rattle.cp_tree_arena.specs.Shapes.{cells}
use Rattle.cp_tree_arena.proofs.Sound.{link_left}
use Rattle.cp_tree_arena.proofs.Opening.{opened, tip_of, full_of, falls_left}
use Rattle.cp_tree_arena.proofs.Popping.{popped_root, popped_link, popped_more}
use Rattle.cp_tree_arena.proofs.balance.+pop_first.Goals as goal

pub returns-then-is_none : goal.returns-then-is_none
returns-then-is_none t c u xs ys k some =
    let f = opened c.args.slots.now c.args.at.number u xs ys c.links_at-links.result k some c.links_at-links.ensures in
    let none : c.links_at-links.result.left.number ≡ NO_SLOT = eqb-true c.links_at-links.result.left.number NO_SLOT (sym c.is_none.ensures ∙ c.if-is_none.true) in
    popped_root c.args.slots.now c.args.at.number u xs ys c.links_at-links.result f (tip_of c.args.slots.now c.links_at-links.result.left.number f.l xs ((c.args.at.number, f.s) ∷ ((cells f.c ++ cells f.r) ++ ys)) (link_left 1 c.args.slots.now c.args.at.number c.links_at-links.result f.s f.l f.c f.r xs ys f.can) none)

pub pop_first-popped-requires : goal.pop_first-popped-requires
pop_first-popped-requires t c =
    let w = c.requires in
    let f = opened c.args.slots.now c.args.at.number w.shape w.xs w.ys c.links_at-links.result w.is w.some c.links_at-links.ensures in
    let some : c.links_at-links.result.left.number ≢ NO_SLOT = λ e. (let yes : eqb c.links_at-links.result.left.number NO_SLOT ≡ true = eq-eqb c.links_at-links.result.left.number NO_SLOT e in let no = sym c.is_none.ensures ∙ c.if-is_none.false in cc) in
    let left = link_left 1 c.args.slots.now c.args.at.number c.links_at-links.result f.s f.l f.c f.r w.xs w.ys f.can in (
      omega (arith, falls_left c.args.slots.now c.args.at.number w.shape w.xs w.ys c.links_at-links.result w.is f),
      record { shape = f.l; xs = w.xs; ys = (c.args.at.number, f.s) ∷ ((cells f.c ++ cells f.r) ++ w.ys); is = left; some = full_of c.args.slots.now c.links_at-links.result.left.number f.l w.xs ((c.args.at.number, f.s) ∷ ((cells f.c ++ cells f.r) ++ w.ys)) left some },
    )

pub balance-others-requires : goal.balance-others-requires
balance-others-requires t c =
    let w = c.requires in
    let links = c.links_at-links.result in
    let f = opened c.args.slots.now c.args.at.number w.shape w.xs w.ys links w.is w.some c.links_at-links.ensures in
    let some : links.left.number ≢ NO_SLOT = λ e. (let yes : eqb links.left.number NO_SLOT ≡ true = eq-eqb links.left.number NO_SLOT e in let no = sym c.is_none.ensures ∙ c.if-is_none.false in cc) in
    let ys = (c.args.at.number, f.s) ∷ ((cells f.c ++ cells f.r) ++ w.ys) in
    let left = link_left 1 c.args.slots.now c.args.at.number links f.s f.l f.c f.r w.xs w.ys f.can in
    let p = c.pop_first-popped.ensures f.l w.xs ys left (full_of c.args.slots.now links.left.number f.l w.xs ys left some) in
    record { s = f.s; l = p.shape; c = f.c; r = f.r; xs = w.xs ++ (c.pop_first-popped.result.first.number, p.s) ∷ cells p.c; ys = w.ys; can = popped_link c.args.slots.now c.args.at.number w.shape w.xs w.ys links f c.pop_first-popped.new.slots c.pop_first-popped.result.first.number c.pop_first-popped.result.others p }

pub returns : goal.returns
returns t c u xs ys k full =
    let links = c.links_at-links.result in
    let f = opened c.args.slots.now c.args.at.number u xs ys links k full c.links_at-links.ensures in
    let some : links.left.number ≢ NO_SLOT = λ e. (let yes : eqb links.left.number NO_SLOT ≡ true = eq-eqb links.left.number NO_SLOT e in let no = sym c.is_none.ensures ∙ c.if-is_none.false in cc) in
    let after = (c.args.at.number, f.s) ∷ ((cells f.c ++ cells f.r) ++ ys) in
    let left = link_left 1 c.args.slots.now c.args.at.number links f.s f.l f.c f.r xs ys f.can in
    let p = c.pop_first-popped.ensures f.l xs after left (full_of c.args.slots.now links.left.number f.l xs after left some) in
    let can = popped_link c.args.slots.now c.args.at.number u xs ys links f c.pop_first-popped.new.slots c.pop_first-popped.result.first.number c.pop_first-popped.result.others p in
    let st = c.balance-others.ensures f.s p.shape f.c f.r (xs ++ (c.pop_first-popped.result.first.number, p.s) ∷ cells p.c) ys can in
    popped_more c.args.slots.now c.args.at.number u xs ys links f c.pop_first-popped.new.slots c.pop_first-popped.result.first.number c.pop_first-popped.result.others p c.balance-others.new.slots c.balance-others.result.number st
