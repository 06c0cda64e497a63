use Rattle.cp_workspace.proofs.Owning.{no-bad_byte}
use Rattle.cp_workspace.proofs.owner.bad_byte_or.Goals as goal

pub returns-in-Ok : goal.returns-in-Ok
returns-in-Ok c = no-bad_byte c.args.at c.args.text.now c.in-Ok.ensures.cases.1
