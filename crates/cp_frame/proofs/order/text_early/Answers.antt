use Rattle.std.proofs.Common.{rules, ◌<◌, ◌≤◌, inl, inr, length, get_or, nat_eq, arith}
use Rattle.std.proofs.lemmas.List.Sums.{common_prefix_len-le}
use Rattle.cp_frame.proofs.Early.{begun_follows, common, greater_follows, lesser_early, whole_early}
use Rattle.cp_frame.proofs.order.text_early.Goals.{then-same-elder-via-then-same-elder, then-same-elder-via-else-same-elder+then-elder-same}
use Rattle.cp_frame.proofs.order.text_early.Goals as goal

pub returns-then-same-count-clause-early : goal.returns-then-same-count-clause-early
returns-then-same-count-clause-early c = whole_early c.args.elder.now c.args.begun.now c.args.count c.common-same.result c.common-same.ensures c.if-same-begun.true c.if-same-count.true

pub returns-then-same-begun-clause-follows : goal.returns-then-same-begun-clause-follows
returns-then-same-begun-clause-follows c = λ none. begun_follows c.args.elder.now c.args.begun.now c.args.count c.common-same.result c.common-same.ensures c.if-same-begun.true c.if-same-count.false

pub bounds-elder-same : goal.bounds-elder-same
bounds-elder-same c =
    let le : common c.args.elder.now c.args.begun.now ≤ length c.args.elder.now = (common_prefix_len-le nat_eq c.args.elder.now c.args.begun.now).0 in
    omega (arith, le, c.common-same.ensures, c.if-same-elder.false)

pub bounds-begun-same : goal.bounds-begun-same
bounds-begun-same c =
    let le : common c.args.elder.now c.args.begun.now ≤ length c.args.begun.now = (common_prefix_len-le nat_eq c.args.elder.now c.args.begun.now).1 in
    omega (arith, le, c.common-same.ensures, c.if-same-begun.false)

pub returns-then-same-elder-clause-follows : goal.returns-then-same-elder-clause-follows
returns-then-same-elder-clause-follows c = λ none.
    greater_follows c.args.elder.now c.args.begun.now c.args.count c.common-same.result c.common-same.ensures c.if-same-begun.false
    (elim c.then-same-elder.branch [
      | then-same-elder-via-then-same-elder w ↦ inl w.if-same-elder.true
      | then-same-elder-via-else-same-elder+then-elder-same w ↦ inr w.if-elder-same.true
    ])

pub overflow_add-result : goal.overflow_add-result
overflow_add-result c =
    let le : common c.args.elder.now c.args.begun.now ≤ length c.args.begun.now = (common_prefix_len-le nat_eq c.args.elder.now c.args.begun.now).1 in
    let lt : c.common-same.result < length c.args.begun.now = omega (arith, le, c.common-same.ensures, c.if-same-begun.false) in
    search (rules, lt)

pub returns-clause-early : goal.returns-clause-early
returns-clause-early c =
    let le : get_or c.args.begun.now c.common-same.result 0 ≤ get_or c.args.elder.now c.common-same.result 0 = c.if-elder-same.false in
    lesser_early c.args.elder.now c.args.begun.now c.args.count c.common-same.result c.common-same.ensures c.if-same-begun.false c.if-same-elder.false le
