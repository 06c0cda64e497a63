use Rattle.cp_operation.proofs.Loading.{loaded-more}
use Rattle.cp_operation.proofs.sources.Sources.add.Goals as goal

pub returns-clause-added : goal.returns-clause-added
returns-clause-added g c = loaded-more g.S.TreeRep.contents c.args.self.now (record { trees = c.insert.new.self }) c.args.name c.args.tree c.requires.new c.in_ok-insert.ensures.entries
