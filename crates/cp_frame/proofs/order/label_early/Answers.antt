use Rattle.std.proofs.Common.{sym, ◌∙◌}
use Rattle.cp_frame.proofs.Early.{label_refused, some_by, some_bytes}
use Rattle.cp_frame.proofs.order.label_early.Goals as goal

pub returns-clause-early : goal.returns-clause-early
returns-clause-early c =
    let some = some_bytes c.args.begun.now (sym c.is_empty.ensures ∙ c.if-is_empty.false) in
    some_by c.text_early.result (λ k h most. label_refused c.args.elder.now c.args.begun.now some k h most) c.text_early.ensures.early
