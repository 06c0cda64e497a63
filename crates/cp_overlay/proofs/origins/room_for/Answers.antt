use Rattle.std.proofs.Common.{◌+◌, take, sym, ap, ◌∙◌}
use Rattle.cp_overlay.specs.Shown.{has_key}
use Rattle.cp_overlay.proofs.Sets.{there_more, take_next}
use Rattle.cp_overlay.proofs.origins.room_for.Goals as goal

pub loop-row-preserved : goal.loop-row-preserved
loop-row-preserved c = record {
  same = λ r. c.make_room.ensures.same r ∙ c.loop-row.invariant.same r;
  there = there_more c.loop-row.map c.make_room.new.map (take c.loop-row.row-index c.args.rows.now) (take (c.loop-row.row-index + 1) c.args.rows.now) c.row-item.result.0 c.row-item.result.1
      (take_next c.args.rows.now c.loop-row.row-index c.row-item.result c.loop-row-test.true c.row-item.is) c.loop-row.invariant.there c.make_room.ensures.grows
      (ap (has_key c.make_room.new.map) (sym (c.in_ok-key.ensures.items_if_clones_equal (λ x y h. h) ∙ c.as_slice.ensures.value)) ∙ c.in_ok-make_room.ensures.there);
}
