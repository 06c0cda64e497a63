use Rattle.std.proofs.Common.{refl}
use Rattle.cp_workspace.proofs.workspace.Workspace.refuse.Goals as goal

pub returns-in-Ok-clause-turned : goal.returns-in-Ok-clause-turned
returns-in-Ok-clause-turned g c = λ terms s h. rw (c.refused.ensures) (refl, c.in-Ok.ensures.stands terms s c.args.why h)
