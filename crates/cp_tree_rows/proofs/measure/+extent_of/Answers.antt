use Rattle.std.proofs.Common.{◌+◌, arith, ap, length}
use Rattle.cp_tree_rows.proofs.Reading.{facts}
use Rattle.cp_tree_rows.proofs.Walking.{one_on, depth_one, size_one, depth_none, size_none, greater_on}
use Rattle.cp_tree_rows.proofs.measure.+extent_of.Goals as goal

pub slice_bounds-extent_of-end : goal.slice_bounds-extent_of-end
slice_bounds-extent_of-end t c =
    let r = c.index-rows-at in
    let w = one_on c.args.rows.now c.loop-at.at r.result c.loop-at-test.true r.is c.loop-at.invariant.back in
    omega (arith, w.within)

pub extent_of-inner-requires : goal.extent_of-inner-requires
extent_of-inner-requires t c =
    let r = c.index-rows-at in
    let l = c.loop-at.invariant in
    let w = one_on c.args.rows.now c.loop-at.at r.result c.loop-at-test.true r.is l.back in (
      omega (arith, w.shorter, c.decreases),
      (
        (facts r.result.item r.result.last _ w.part).nested,
        (
          omega (arith, depth_one _ c.loop-at.at r.result w, l.depth, c.requires.few),
          omega (arith, size_one _ c.loop-at.at r.result w, l.size, c.requires.short),
        ),
      ),
    )

pub overflow_add-inner : goal.overflow_add-inner
overflow_add-inner t c =
    let r = c.index-rows-at in
    let l = c.loop-at.invariant in
    let w = one_on c.args.rows.now c.loop-at.at r.result c.loop-at-test.true r.is l.back in
    omega (arith, depth_one _ c.loop-at.at r.result w, l.depth, c.requires.few, c.extent_of-inner.ensures.depth)

pub overflow_add-label-in-loop-at : goal.overflow_add-label-in-loop-at
overflow_add-label-in-loop-at t c =
    let r = c.index-rows-at in
    let l = c.loop-at.invariant in
    let w = one_on c.args.rows.now c.loop-at.at r.result c.loop-at-test.true r.is l.back in
    omega (arith, size_one _ c.loop-at.at r.result w, l.size, c.requires.short, c.extent_of-inner.ensures.size, ap length c.as_str.ensures.text)

pub loop-at-preserved : goal.loop-at-preserved
loop-at-preserved t c =
    let r = c.index-rows-at in
    let l = c.loop-at.invariant in
    let w = one_on c.args.rows.now c.loop-at.at r.result c.loop-at-test.true r.is l.back in
    record {
      within = w.within;
      back = w.back;
      depth = greater_on c.loop-at.depth _ _ _ _ _ _ c.max-depth.ensures (ap (λ n. 1 + n) c.extent_of-inner.ensures.depth) (depth_one _ c.loop-at.at r.result w) l.depth;
      size = greater_on c.loop-at.size _ _ _ _ _ _ c.max-size.ensures (omega (arith, c.extent_of-inner.ensures.size, ap length c.as_str.ensures.text)) (size_one _ c.loop-at.at r.result w) l.size;
    }

pub returns-clause-depth : goal.returns-clause-depth
returns-clause-depth t c = omega (arith, c.loop-at.invariant.depth, depth_none _ c.loop-at.at c.loop-at-test.false)

pub returns-clause-size : goal.returns-clause-size
returns-clause-size t c = omega (arith, c.loop-at.invariant.size, size_none _ c.loop-at.at c.loop-at-test.false)
