use Rattle.cp_paged.proofs.by_key.ByKeyPlaceRows.lost.Goals as goal

pub returns-clause-lost : goal.returns-clause-lost
returns-clause-lost g c = λ rs kept. c.lost_tids.ensures.lost c.args.self.now.kind kept.0 rs kept.1

pub returns-clause-reads : goal.returns-clause-reads
returns-clause-reads g c = λ rs kept. c.lost_tids.ensures.reads c.args.self.now.kind kept.0 rs kept.1
