use Rattle.cp_scratch.proofs.workload.run_operation.Goals as goal

pub returns-clause-turned : goal.returns-clause-turned
returns-clause-turned g c = λ terms s z. (c.in_ok-operate.ensures.turned terms s z).1
