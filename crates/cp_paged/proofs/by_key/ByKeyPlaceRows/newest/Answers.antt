use Rattle.cp_paged.proofs.by_key.ByKeyPlaceRows.newest.Goals as goal

pub returns-clause-newest : goal.returns-clause-newest
returns-clause-newest g c = λ rs kept. c.newest_row.ensures.newest c.args.self.now.kind kept.0 rs kept.1
