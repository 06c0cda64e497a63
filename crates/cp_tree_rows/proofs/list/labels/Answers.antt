use Rattle.std.proofs.Common.{◌∙◌}
use Rattle.cp_tree_rows.proofs.Walking.{one_on, labels_on, labels_end}
use Rattle.cp_tree_rows.proofs.list.labels.Goals as goal

pub loop-at-preserved : goal.loop-at-preserved
loop-at-preserved c =
    let r = c.index-rows-at in
    let w = one_on c.args.rows.now c.loop-at.at r.result c.loop-at-test.true r.is c.loop-at.invariant.back in
    record {
      within = w.within;
      back = w.back;
      so_far = labels_on c.args.rows.now c.loop-at.at r.result _ _ _ _ w (c.in_ok-copy_of.ensures ∙ c.as_str.ensures.text) c.in_ok-push.ensures.items c.loop-at.invariant.so_far;
    }

pub returns : goal.returns
returns c = labels_end c.args.rows.now c.loop-at.at _ _ c.loop-at-test.false c.loop-at.invariant.so_far
