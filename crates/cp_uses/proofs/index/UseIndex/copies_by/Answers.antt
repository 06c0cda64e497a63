use Rattle.std.proofs.Common.{sym, subst, ◌∙◌}
use Rattle.std.specs.List.Sorted.{IsNonDecreasingBy}
use Rattle.std.specs.Prelude.{◌&&◌, nat_lt}
use Rattle.cp_uses.specs.Index.{has_source, copies_by, AreStepsOf}
use Rattle.cp_uses.proofs.CopySteps.{rows-of-steps, steps-order, rows-order}
use Rattle.cp_uses.proofs.index.UseIndex.copies_by.Goals as goal

pub steps_after-requires : goal.steps_after-requires
steps_after-requires c =
    let x = c.self.inside in
    subst (λ l. IsNonDecreasingBy (λ s. s.tid) l) (sym (c.steps_at.ensures ∙ c.self.invariant.copies c.args.key.now)) (steps-order c.args.key.now 0 x.rows.now c.self.invariant.order)

pub returns-clause-steps : goal.returns-clause-steps
returns-clause-steps c =
    let x = c.self.inside in
    subst (λ rs. AreStepsOf rs c.steps_after.result.now (copies_by rs c.args.key.now c.args.after)) c.self.view_is
    (subst (λ l. AreStepsOf x.rows.now l (copies_by x.rows.now c.args.key.now c.args.after)) (sym c.steps_after.ensures)
    (rows-of-steps x.rows.now c.args.key.now c.args.after c.steps_at.result.now (c.steps_at.ensures ∙ c.self.invariant.copies c.args.key.now)))

pub returns-clause-order : goal.returns-clause-order
returns-clause-order c =
    let x = c.self.inside in
    subst (λ rs. IsNonDecreasingBy (λ r. r.tid) (copies_by rs c.args.key.now c.args.after)) c.self.view_is
    (rows-order (λ r. has_source c.args.key.now r && nat_lt c.args.after r.tid) x.rows.now c.self.invariant.order)
