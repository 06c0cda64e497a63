use Rattle.std.proofs.Common.{subst, ◌∙◌, arith}
use Rattle.cp_uses.specs.Index.{copies_by, AreStepsOf}
use Rattle.cp_uses.specs.Sources.{source_key}
use Rattle.cp_uses.proofs.Adding.{take-whole, taken-more}
use Rattle.cp_uses.proofs.CopySteps.{steps-length, step-within, step-is}
use Rattle.cp_uses.proofs.Keys.{copies-by}
use Rattle.cp_uses.proofs.index.UseIndex.copies_of.Goals as goal

pub row-requires : goal.row-requires
row-requires c =
    step-within c.args.self.now c.copies_by-steps.result.now (copies_by c.args.self.now c.as_slice.result.now c.args.after) c.loop-step.step-index _ c.copies_by-steps.ensures.steps c.loop-step-test.true

pub loop-step-preserved : goal.loop-step-preserved
loop-step-preserved c =
    let i = c.loop-step.invariant in
    let rs = c.args.self.now in
    let xs = copies_by rs (source_key c.args.source.now) c.args.after in
    let told : AreStepsOf rs c.copies_by-steps.result.now xs = subst (λ k. AreStepsOf rs c.copies_by-steps.result.now (copies_by rs k c.args.after)) (c.as_slice.ensures.value ∙ c.in_ok-key.ensures) c.copies_by-steps.ensures.steps in
    let many = steps-length rs c.copies_by-steps.result.now xs told in
    let is = step-is rs c.copies_by-steps.result.now xs c.loop-step.step-index _ told c.loop-step-test.true c.row.result.now c.row.ensures in
    record {
      within = omega (arith, c.loop-step-test.true);
      found = taken-more xs c.loop-step.step-index c.row.result.now c.in_ok-copy_of.field-0 _ _ (omega (arith, many, c.loop-step-test.true)) is c.in_ok-copy_of.ensures i.found c.in_ok-push.ensures.items;
    }

pub returns : goal.returns
returns c =
    let i = c.loop-step.invariant in
    let rs = c.args.self.now in
    let xs = copies_by rs (source_key c.args.source.now) c.args.after in
    let told : AreStepsOf rs c.copies_by-steps.result.now xs = subst (λ k. AreStepsOf rs c.copies_by-steps.result.now (copies_by rs k c.args.after)) (c.as_slice.ensures.value ∙ c.in_ok-key.ensures) c.copies_by-steps.ensures.steps in
    let many = steps-length rs c.copies_by-steps.result.now xs told in
    let w = i.within in
    i.found ∙ take-whole c.loop-step.step-index xs (omega (arith, w, c.loop-step-test.false, many)) ∙ copies-by rs c.args.source.now c.args.after
