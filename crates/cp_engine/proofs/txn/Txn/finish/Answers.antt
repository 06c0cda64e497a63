use Rattle.std.proofs.Common.{ℕ, ◌∙◌, sym, subst, Ok}
use Rattle.cp_engine.specs.Transactions.{Finishes}
use Rattle.cp_engine.proofs.Finishing.{step-taken}
use Rattle.cp_engine.proofs.txn.Txn.finish.Goals as goal

pub returns-in-Ok : goal.returns-in-Ok
returns-in-Ok g c = λ k ss t n p h.
    let view = g.R.TreeRep.contents in
    subst (λ (most : ℕ). Finishes view k ss t n p most (Ok c.into_step.result)) c.min.ensures
    (subst (λ s. Finishes view k ss t n p c.min.result (Ok s))
    (sym (c.into_step.ensures ∙ step-taken c.args.self c.packed.new.self c.in-Ok.rows c.packed.ensures.rest))
    (c.in-Ok.ensures.step k ss t n p h))
