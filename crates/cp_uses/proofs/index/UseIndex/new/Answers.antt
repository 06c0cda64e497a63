use Rattle.cp_uses.proofs.CopySteps.{no-copies}
use Rattle.cp_uses.proofs.index.UseIndex.new.Goals as goal

pub loop-number-init : goal.loop-number-init
loop-number-init c = no-copies _ c.new-copies.ensures.empty
