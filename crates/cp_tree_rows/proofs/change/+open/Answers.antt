use Rattle.std.proofs.Common.{arith, sym, ap, refl, ◌+◌, ◌-◌}
use Rattle.cp_model.specs.declared.row.Content.TheVariants.{Node}
use Rattle.cp_tree.proofs.GoodLemmas.{get_nothing}
use Rattle.cp_tree_rows.specs.Forest.{edges, tree_of}
use Rattle.cp_tree_rows.proofs.Reading.{facts, good_part}
use Rattle.cp_tree_rows.proofs.Stretches.{nothing_in_gap}
use Rattle.cp_tree_rows.proofs.Opening.{end_within, part_at, node_at, short_at, as_long, same_row, opened_row}
use Rattle.cp_tree_rows.proofs.change.+open.Goals as goal

pub unreachable-requires : goal.unreachable-requires
unreachable-requires t c =
    let rs = c.args.rows.now in
    let g = good_part Node c.args.last.now rs c.requires.part in
    let none = get_nothing (tree_of Node rs) Node (edges rs) (edges rs) c.in-Some.first.now refl g c.in-Some.rest.now (nothing_in_gap rs c.in-Some.first.now _ c.in-Err.ensures) in
    let some = rw c.in-Some.ensures.cases.0 at c.requires.node in
    absurd (cc)

pub slice_bounds-inner-end : goal.slice_bounds-inner-end
slice_bounds-inner-end t c =
    let r = c.index-rows-at in
    let node = rw c.in-Some.ensures.cases.0 at c.requires.node in
    end_within c.args.rows.now c.args.last.now c.in-Some.first.now c.in-Ok.at r.result c.requires.part c.in-Ok.ensures r.is c.in-Some.rest.now node _ (sym r.is)

pub open-span-requires : goal.open-span-requires
open-span-requires t c =
    let r = c.index-rows-at in
    let node = rw c.in-Some.ensures.cases.0 at c.requires.node in (
      omega (arith, c.in-Some.ensures.cases.1),
      (
        part_at c.args.rows.now c.args.last.now c.in-Some.first.now c.in-Ok.at r.result c.requires.part c.in-Ok.ensures r.is c.in-Some.rest.now node _ (sym r.is),
        (
          node_at c.args.rows.now c.args.last.now c.in-Some.first.now c.in-Ok.at r.result c.requires.part c.in-Ok.ensures r.is c.in-Some.rest.now node _ (sym r.is),
          omega (arith, c.requires.room, short_at c.args.rows.now c.args.last.now c.in-Some.first.now c.in-Ok.at r.result c.requires.part c.in-Ok.ensures r.is c.in-Some.rest.now node _ (sym r.is)),
        ),
      ),
    )

pub bounds-rows-at-in-Ok : goal.bounds-rows-at-in-Ok
bounds-rows-at-in-Ok t c =
    let r = c.index-rows-at in
    let node = rw c.in-Some.ensures.cases.0 at c.requires.node in
    let fits = end_within c.args.rows.now c.args.last.now c.in-Some.first.now c.in-Ok.at r.result c.requires.part c.in-Ok.ensures r.is c.in-Some.rest.now node _ (sym r.is) in
    let long = as_long c.args.rows.now c.args.last.now c.in-Some.first.now c.in-Ok.at r.result c.requires.part c.in-Ok.ensures r.is c.in-Some.rest.now node _ (sym r.is) c.open-span.new.rows c.open-span.new.last c.open-span.result.start c.open-span.result.end c.args.added c.args.label.now c.open-span.ensures in
    omega (arith, fits, long)

pub returns-in-Ok : goal.returns-in-Ok
returns-in-Ok t c =
    let r = c.index-rows-at in
    let o = c.open-span in
    let node = rw c.in-Some.ensures.cases.0 at c.requires.node in
    let same = same_row c.args.rows.now c.args.last.now c.in-Some.first.now c.in-Ok.at r.result c.requires.part c.in-Ok.ensures r.is c.in-Some.rest.now node _ (sym r.is) o.new.rows o.new.last o.result.start o.result.end c.args.added c.args.label.now o.ensures _ in
    let done = opened_row c.args.rows.now c.args.last.now c.in-Some.first.now c.in-Ok.at r.result c.requires.part c.in-Ok.ensures r.is c.in-Some.rest.now node _ (sym r.is) o.new.rows o.new.last o.result.start o.result.end c.args.added c.args.label.now o.ensures
    _ (ap (λ z. z.label) same) (ap (λ z. z.item) same) (ap (λ z. z.below + c.args.added - (o.result.end - o.result.start)) (sym r.is)) refl _ refl c.index_if.result c.index_if.ensures in
    rw c.in-Some.ensures.cases.0 done

pub open_here-requires-clause-part : goal.open_here-requires-clause-part
open_here-requires-clause-part t c = c.requires.part

pub open_here-requires-clause-room : goal.open_here-requires-clause-room
open_here-requires-clause-room t c = c.requires.room

pub child-requires-clause-nested : goal.child-requires-clause-nested
child-requires-clause-nested t c = (facts Node c.args.last.now c.args.rows.now c.requires.part).nested

pub child-requires-clause-sorted : goal.child-requires-clause-sorted
child-requires-clause-sorted t c = (facts Node c.args.last.now c.args.rows.now c.requires.part).sorted

pub child-requires-clause-points : goal.child-requires-clause-points
child-requires-clause-points t c = (facts Node c.args.last.now c.args.rows.now c.requires.part).points

pub overflow_add-end : goal.overflow_add-end
overflow_add-end t c =
    let r = c.index-rows-at in
    let node = rw c.in-Some.ensures.cases.0 at c.requires.node in
    let fits = end_within c.args.rows.now c.args.last.now c.in-Some.first.now c.in-Ok.at r.result c.requires.part c.in-Ok.ensures r.is c.in-Some.rest.now node _ (sym r.is) in
    omega (arith, fits, c.requires.room)

pub overflow_add-end-in-Ok : goal.overflow_add-end-in-Ok
overflow_add-end-in-Ok t c =
    let r = c.index-rows-at in
    let node = rw c.in-Some.ensures.cases.0 at c.requires.node in
    let fits = end_within c.args.rows.now c.args.last.now c.in-Some.first.now c.in-Ok.at r.result c.requires.part c.in-Ok.ensures r.is c.in-Some.rest.now node _ (sym r.is) in
    omega (arith, fits, c.requires.room)

pub index_if-requires : goal.index_if-requires
index_if-requires t c =
    let r = c.index-rows-at in
    let node = rw c.in-Some.ensures.cases.0 at c.requires.node in
    let fits = end_within c.args.rows.now c.args.last.now c.in-Some.first.now c.in-Ok.at r.result c.requires.part c.in-Ok.ensures r.is c.in-Some.rest.now node _ (sym r.is) in
    omega (arith, fits, c.requires.room)

pub overflow_add-row : goal.overflow_add-row
overflow_add-row t c =
    let r = c.index-rows-at in
    let node = rw c.in-Some.ensures.cases.0 at c.requires.node in
    let fits = end_within c.args.rows.now c.args.last.now c.in-Some.first.now c.in-Ok.at r.result c.requires.part c.in-Ok.ensures r.is c.in-Some.rest.now node _ (sym r.is) in
    omega (arith, fits, c.requires.room)

pub overflow_cast-row : goal.overflow_cast-row
overflow_cast-row t c =
    let r = c.index-rows-at in
    let node = rw c.in-Some.ensures.cases.0 at c.requires.node in
    let fits = end_within c.args.rows.now c.args.last.now c.in-Some.first.now c.in-Ok.at r.result c.requires.part c.in-Ok.ensures r.is c.in-Some.rest.now node _ (sym r.is) in
    omega (arith, fits, c.requires.room)

pub overflow_sub-row : goal.overflow_sub-row
overflow_sub-row t c = omega (arith, c.open-span.ensures.order)

pub overflow_add-result : goal.overflow_add-result
overflow_add-result t c =
    let r = c.index-rows-at in
    let node = rw c.in-Some.ensures.cases.0 at c.requires.node in
    let fits = end_within c.args.rows.now c.args.last.now c.in-Some.first.now c.in-Ok.at r.result c.requires.part c.in-Ok.ensures r.is c.in-Some.rest.now node _ (sym r.is) in
    let short = short_at c.args.rows.now c.args.last.now c.in-Some.first.now c.in-Ok.at r.result c.requires.part c.in-Ok.ensures r.is c.in-Some.rest.now node _ (sym r.is) in
    omega (arith, fits, short, c.requires.room, c.open-span.ensures.order, c.open-span.ensures.within, c.open-span.ensures.long)

pub overflow_add-result-in-Ok : goal.overflow_add-result-in-Ok
overflow_add-result-in-Ok t c =
    let r = c.index-rows-at in
    let node = rw c.in-Some.ensures.cases.0 at c.requires.node in
    let fits = end_within c.args.rows.now c.args.last.now c.in-Some.first.now c.in-Ok.at r.result c.requires.part c.in-Ok.ensures r.is c.in-Some.rest.now node _ (sym r.is) in
    let short = short_at c.args.rows.now c.args.last.now c.in-Some.first.now c.in-Ok.at r.result c.requires.part c.in-Ok.ensures r.is c.in-Some.rest.now node _ (sym r.is) in
    omega (arith, fits, short, c.requires.room, c.open-span.ensures.order, c.open-span.ensures.within, c.open-span.ensures.long)
