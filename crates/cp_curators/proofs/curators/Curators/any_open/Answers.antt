use Rattle.cp_curators.proofs.Open.{some-open}
use Rattle.cp_curators.proofs.curators.Curators.any_open.Goals as goal

pub returns-clause-open : goal.returns-clause-open
returns-clause-open g c = λ ss desks s e. some-open g.R.TreeRep.contents ss c.args.self.now desks s c.is_empty.result c.is_empty.ensures e
