use Rattle.std.proofs.Common.{◌+◌, take, cond, ap, ◌∙◌}
use Rattle.std.specs.declared.option.Option.TheVariants.{None}
use Rattle.cp_model.specs.Place.{path_eq}
use Rattle.cp_overlay.specs.Shown.{kept}
use Rattle.cp_overlay.proofs.Found.{kept_updated}
use Rattle.cp_overlay.proofs.Sets.{removed_more, take_next}
use Rattle.cp_overlay.proofs.origins.remove_all.Goals as goal

pub loop-key-preserved : goal.loop-key-preserved
loop-key-preserved c =
    λ r. removed_more r c.args.map.now c.loop-key.map c.remove.new.self c.key-item.result (take c.loop-key.key-index c.args.keys.now) (take (c.loop-key.key-index + 1) c.args.keys.now)
    (take_next c.args.keys.now c.loop-key.key-index c.key-item.result c.loop-key-test.true c.key-item.is) (c.loop-key.invariant r)
    (kept_updated c.loop-key.map c.remove.new.self c.as_slice.result.now None c.remove.ensures.updates r ∙ ap (λ k. cond (path_eq r k) None (kept c.loop-key.map r)) c.as_slice.ensures.value)
