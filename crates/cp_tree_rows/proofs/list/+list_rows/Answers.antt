use Rattle.std.proofs.Common.{◌∙◌, arith, ap, ◌++◌, ◌∷◌, []}
use Rattle.cp_tree.specs.Rows.{entry_row}
use Rattle.cp_tree_rows.proofs.Reading.{facts}
use Rattle.cp_tree.proofs.Walking.{pop_push}
use Rattle.cp_tree_rows.proofs.Walking.{one_on, rows_on, rows_end}
use Rattle.cp_tree_rows.proofs.list.+list_rows.Goals as goal

pub slice_bounds-list_rows-end : goal.slice_bounds-list_rows-end
slice_bounds-list_rows-end t c =
    let r = c.index-rows-first in
    let w = one_on c.args.rows.now c.loop-first.first r.result c.loop-first-test.true r.is c.loop-first.invariant.back in
    omega (arith, w.within)

pub list_rows-requires : goal.list_rows-requires
list_rows-requires t c =
    let r = c.index-rows-first in
    let w = one_on c.args.rows.now c.loop-first.first r.result c.loop-first-test.true r.is c.loop-first.invariant.back in
    (omega (arith, w.shorter, c.decreases), (facts r.result.item r.result.last _ w.part).nested)

pub loop-first-preserved : goal.loop-first-preserved
loop-first-preserved t c =
    let r = c.index-rows-first in
    let l = c.loop-first.invariant in
    let w = one_on c.args.rows.now c.loop-first.first r.result c.loop-first-test.true r.is l.back in
    let label = c.in_ok-copy_of.ensures ∙ c.as_str.ensures.text in
    let deeper = c.in_ok-push.ensures.items ∙ (λ i. l.same_place i ++ label i ∷ []) in
    record {
      within = w.within;
      back = w.back;
      same_place = c.pop.ensures.rest ∙ pop_push c.loop-first.at.items c.list_rows.new.at.items c.in_ok-copy_of.field-0 _ (c.in_ok-list_rows.ensures.same_place ∙ c.in_ok-push.ensures.items) (c.list_rows.new.at.ok.0) ∙ l.same_place;
      so_far = rows_on c.args.rows.now c.loop-first.first r.result _ c.push.new.self.items _ c.list_place.new.out.items _ _ w deeper (c.in_ok-list_place.ensures ∙ ap (λ z. c.loop-first.out.items ++ entry_row (z, r.result.item) ∷ []) c.deref.ensures.value) c.in_ok-list_rows.ensures.rows l.so_far;
    }

pub returns-clause-rows : goal.returns-clause-rows
returns-clause-rows t c = rows_end c.args.rows.now c.loop-first.first _ _ _ c.loop-first-test.false c.loop-first.invariant.so_far
