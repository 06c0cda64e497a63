use Rattle.cp_paged.proofs.by_key.ByKeyPlaceRows.child_gone.Goals as goal

pub returns-clause-gone : goal.returns-clause-gone
returns-clause-gone g c = λ rs kept. c.step_takes_child.ensures.gone c.args.self.now.kind kept.0 rs kept.1
