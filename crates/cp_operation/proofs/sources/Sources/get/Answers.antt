use Rattle.cp_operation.proofs.Loading.{source-loaded}
use Rattle.cp_operation.proofs.sources.Sources.get.Goals as goal

pub returns : goal.returns
returns g c = source-loaded g.S.TreeRep.contents (λ b. b.now) c.args.self.now c.args.name.now c.get.result c.get.ensures.value
