use Rattle.cp_workspace.proofs.Written.{reading-written}
use Rattle.cp_workspace.proofs.stated.laws.Goals as goal

pub returns : goal.returns
returns c = record { written = λ terms. reading-written }
