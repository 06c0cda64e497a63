use Rattle.std.proofs.Common.{◌∙◌, ◌++◌, ◌∷◌, [], ap}
use Rattle.cp_page.proofs.Cases.{read_some, read_none}
use Rattle.cp_paged.proofs.SameRecords.{read-step, no-step}
use Rattle.cp_paged.proofs.looking.push_record.Goals as goal

pub returns-in_default : goal.returns-in_default
returns-in_default c = λ r spelled is. absurd (no-step c.args.row.now c.as_slice-key.result.now c.as_slice.result.now c.as_slice-key.ensures c.as_slice.ensures (read_none _ _ _ _ c.in_default.is c.in_ok-record.ensures) r spelled is)

pub returns : goal.returns
returns c = λ r spelled is.
    let same = read-step c.args.row.now c.as_slice-key.result.now c.as_slice.result.now c.as_slice-key.ensures c.as_slice.ensures c.in-Some.record (read_some _ _ _ _ _ c.in-Some.is c.in_ok-record.ensures) r spelled is in
    c.in_ok-push.ensures.items ∙ ap (λ x. c.args.records.now.items ++ x ∷ []) same
