use Rattle.std.proofs.Common.{◌∙◌}
use Rattle.cp_model.specs.Changes.{records_at}
use Rattle.cp_paged.proofs.StepFound.{some-spelled, step-found}
use Rattle.cp_paged.proofs.looking.step_records.Goals as goal

pub returns-clause-found : goal.returns-clause-found
returns-clause-found g c = λ k upto rs kept.
    c.in_ok-records_of.ensures (records_at rs c.args.t) (some-spelled rs c.args.t kept.hold.held.spelled)
    (c.as_slice-3.ensures.value ∙ step-found k upto kept.stored rs kept.hold c.args.t c.ranges.t.fits c.as_slice.result.now c.as_slice-2.result.now (c.as_slice.ensures.value ∙ c.in_ok-low.ensures) (c.as_slice-2.ensures.value ∙ c.in_ok-high.ensures) c.in_ok-found.found.items (c.in_ok-found.ensures.found kept.stored kept.has))
