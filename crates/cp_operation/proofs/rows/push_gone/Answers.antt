use Rattle.std.proofs.Common.{◌≡◌, ◌≤◌, length, arith, ap, ◌∙◌}
use Rattle.cp_model.specs.declared.row.Row.{Row}
use Rattle.cp_tree.specs.Rows.{greatest}
use Rattle.cp_operation.proofs.Depths.{at-most-greatest}
use Rattle.cp_operation.proofs.rows.push_gone.Goals as goal

pub push-requires-clause-place : goal.push-requires-clause-place
push-requires-clause-place c =
    let depth = λ (r : Row). length r.path in
    let all : greatest depth c.deref-row-items.result.now ≡ greatest depth c.args.list.now = ap (greatest depth) (c.deref-row-items.ensures.value ∙ c.list.view_is) in
    let most : length c.row-item.result.path ≤ greatest depth c.deref-row-items.result.now = at-most-greatest depth c.deref-row-items.result.now c.loop-row.row-index c.row-item.result c.loop-row-test.true c.row-item.is in
    omega (arith, all, most, c.requires.shallow)
