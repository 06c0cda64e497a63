use Rattle.std.proofs.Common.{◌∙◌, ◌++◌, ◌∷◌, [], sym, ap}
use Rattle.cp_paged.proofs.ReadSteps.{record-next, records-all}
use Rattle.cp_paged.proofs.looking.records_of.Goals as goal

pub loop-row-preserved : goal.loop-row-preserved
loop-row-preserved c = λ rs all is.
    let next = record-next c.args.rows.now rs c.loop-row.row-index c.row-item.result is all c.loop-row-test.true c.row-item.is in
    c.in_ok-push_record.ensures next.0 next.1 next.2 ∙ ap (λ l. l ++ next.0 ∷ []) (c.loop-row.invariant rs all is) ∙ sym next.3

pub returns : goal.returns
returns c = λ rs all is. records-all c.args.rows.now rs c.loop-row.row-index _ is c.loop-row-test.false (c.loop-row.invariant rs all is)
