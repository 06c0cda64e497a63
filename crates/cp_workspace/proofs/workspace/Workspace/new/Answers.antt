use Rattle.std.proofs.Common.{refl}
use Rattle.cp_workspace.proofs.Standing.{ends-now}
use Rattle.cp_workspace.proofs.workspace.Workspace.new.Goals as goal

pub returns-clause-stands : goal.returns-clause-stands
returns-clause-stands g c = λ h supply z. record { db = z; ends = ends-now c.args.db h; curator = refl; opened = tt; shared = refl; desks = tt }
