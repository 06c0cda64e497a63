use Rattle.cp_page.proofs.KeyBytes.{no_label}
use Rattle.cp_page.proofs.place_key.take_label.Goals as goal

pub returns : goal.returns
returns c = no_label c.args.bytes.now c.loop-byte.label.items c.loop-byte.rest.now c.loop-byte.invariant.is c.in_default.ensures c.in-None.ensures
