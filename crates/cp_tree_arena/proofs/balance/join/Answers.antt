use Rattle.std.proofs.Common.{◌≡◌, ◌≢◌, ◌∙◌, sym, refl, ◌++◌, eqb, eqb-true, eq-eqb, true}
use Rattle.cp_tree_arena.specs.Slots.{NO_SLOT}
use Rattle.cp_tree_arena.specs.Shapes.{cells}
use Rattle.cp_tree_arena.proofs.Opening.{tip_of, full_of}
use Rattle.cp_tree_arena.proofs.Popping.{join_right, joined_none, join_link, joined_more}
use Rattle.cp_tree_arena.proofs.balance.join.Goals as goal

pub returns-then-is_none : goal.returns-then-is_none
returns-then-is_none c l r xs ys k =
    let none : c.args.right.number ≡ NO_SLOT = eqb-true c.args.right.number NO_SLOT (sym c.is_none.ensures ∙ c.if-is_none.true) in
    joined_none c.args.slots.now c.args.left.number c.args.right.number l r xs ys k (tip_of c.args.slots.now c.args.right.number r (xs ++ cells l) ys (join_right c.args.slots.now c.args.left.number c.args.right.number l r xs ys k) none)

pub pop_first-popped-requires : goal.pop_first-popped-requires
pop_first-popped-requires c =
    let w = c.requires in
    let some : c.args.right.number ≢ NO_SLOT = λ e. (let yes : eqb c.args.right.number NO_SLOT ≡ true = eq-eqb c.args.right.number NO_SLOT e in let no = sym c.is_none.ensures ∙ c.if-is_none.false in cc) in
    let right = join_right c.args.slots.now c.args.left.number c.args.right.number w.l w.r w.xs w.ys w.can in
    record { shape = w.r; xs = w.xs ++ cells w.l; ys = w.ys; is = right; some = full_of c.args.slots.now c.args.right.number w.r (w.xs ++ cells w.l) w.ys right some }

pub balance-requires : goal.balance-requires
balance-requires c =
    let w = c.requires in
    let some : c.args.right.number ≢ NO_SLOT = λ e. (let yes : eqb c.args.right.number NO_SLOT ≡ true = eq-eqb c.args.right.number NO_SLOT e in let no = sym c.is_none.ensures ∙ c.if-is_none.false in cc) in
    let right = join_right c.args.slots.now c.args.left.number c.args.right.number w.l w.r w.xs w.ys w.can in
    let p = c.pop_first-popped.ensures w.r (w.xs ++ cells w.l) w.ys right (full_of c.args.slots.now c.args.right.number w.r (w.xs ++ cells w.l) w.ys right some) in
    record { s = p.s; l = w.l; c = p.c; r = p.shape; xs = w.xs; ys = w.ys; can = join_link c.args.slots.now c.args.left.number c.args.right.number w.l w.r w.xs w.ys w.can c.pop_first-popped.new.slots c.args.left c.pop_first-popped.result.first c.pop_first-popped.result.others c.links_at.result refl p c.links_at.ensures }

pub returns : goal.returns
returns c l r xs ys k =
    let some : c.args.right.number ≢ NO_SLOT = λ e. (let yes : eqb c.args.right.number NO_SLOT ≡ true = eq-eqb c.args.right.number NO_SLOT e in let no = sym c.is_none.ensures ∙ c.if-is_none.false in cc) in
    let right = join_right c.args.slots.now c.args.left.number c.args.right.number l r xs ys k in
    let p = c.pop_first-popped.ensures r (xs ++ cells l) ys right (full_of c.args.slots.now c.args.right.number r (xs ++ cells l) ys right some) in
    let can = join_link c.args.slots.now c.args.left.number c.args.right.number l r xs ys k c.pop_first-popped.new.slots c.args.left c.pop_first-popped.result.first c.pop_first-popped.result.others c.links_at.result refl p c.links_at.ensures in
    joined_more c.args.slots.now c.args.left.number c.args.right.number l r xs ys k c.pop_first-popped.new.slots c.args.left c.pop_first-popped.result.first c.pop_first-popped.result.others c.links_at.result refl p c.links_at.ensures c.balance.new.slots c.balance.result.number (c.balance.ensures p.s l p.c p.shape xs ys can)
