use Rattle.cp_paged.proofs.by_key.ByKeyPlaceRows.rows_of.Goals as goal

pub returns-clause-found : goal.returns-clause-found
returns-clause-found g c = λ rs kept. c.step_records.ensures.found c.args.self.now.kind kept.0 rs kept.1
