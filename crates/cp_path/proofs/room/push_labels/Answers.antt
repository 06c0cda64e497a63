use Rattle.std.proofs.Common.{◌∙◌}
use Rattle.cp_path.proofs.Held.{next_fits}
use Rattle.cp_path.proofs.room.push_labels.Goals as goal

pub push_bytes-requires : goal.push_bytes-requires
push_bytes-requires c = next_fits c.args.labels.now c.loop-label.label-index c.args.bytes.now.items c.loop-label.bytes.items c.as_bytes-text.result.now c.label-item.result c.loop-label-test.true c.loop-label.invariant.bytes c.label-item.is (c.as_bytes-text.ensures.value ∙ c.as_str.ensures.text) c.requires.size
