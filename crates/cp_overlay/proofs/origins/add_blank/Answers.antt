use Rattle.std.proofs.Common.{◌+◌, ◌++◌, take, ap, ◌∙◌}
use Rattle.cp_overlay.specs.Shown.{shown}
use Rattle.cp_overlay.proofs.Sets.{blank_more, take_next, under_nil}
use Rattle.cp_overlay.proofs.origins.add_blank.Goals as goal

pub loop-row-init : goal.loop-row-init
loop-row-init c = under_nil (shown c.args.all.now.items) c.args.place.now

pub loop-row-preserved : goal.loop-row-preserved
loop-row-preserved c =
    ap shown c.in_ok-push.ensures.items
    ∙ blank_more c.args.place.now (shown c.args.all.now.items) c.loop-row.all.items (take c.loop-row.row-index c.args.stale.now) (take (c.loop-row.row-index + 1) c.args.stale.now) c.row-item.result c.in_ok-key.key
    (take_next c.args.stale.now c.loop-row.row-index c.row-item.result c.loop-row-test.true c.row-item.is) c.loop-row.invariant
    (c.in_ok-key.ensures ∙ ap (λ s. c.args.place.now ++ s) c.as_slice.ensures.value)
