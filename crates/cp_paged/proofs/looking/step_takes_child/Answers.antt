use Rattle.std.proofs.Common.{◌∙◌, ap}
use Rattle.std.specs.Prelude.{◌&&◌}
use Rattle.std.specs.List.{list_any}
use Rattle.cp_model.specs.Past.{is_child}
use Rattle.cp_model.specs.Records.{is_D, mark_by}
use Rattle.cp_model.specs.declared.record.Record.{Record}
use Rattle.cp_paged.proofs.StepFound.{loses-by}
use Rattle.cp_paged.proofs.looking.step_takes_child.Goals as goal

pub returns-clause-gone : goal.returns-clause-gone
returns-clause-gone g c = λ k upto rs kept.
    c.take_child.ensures
    ∙ ap (list_any (λ (r : Record). is_child c.args.labels.now r.loc.path && is_D (mark_by r.op r.src))) (c.as_slice.ensures.value ∙ c.records.view_is ∙ c.in_ok-records.ensures.found k upto rs kept)
    ∙ loses-by rs c.args.t c.args.labels.now
