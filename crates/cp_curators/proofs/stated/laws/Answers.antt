use Rattle.cp_curators.proofs.DeskLaws.{transactions-have-begun}
use Rattle.cp_curators.proofs.stated.laws.Goals as goal

pub returns : goal.returns
returns c = transactions-have-begun
