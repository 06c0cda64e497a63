use Rattle.std.proofs.Common.{◌∙◌, sym}
use Rattle.cp_page.proofs.Cases.{match_some, match_none}
use Rattle.cp_paged.proofs.TidsListed.{none-outside}
use Rattle.cp_paged.proofs.looking.push_tid.Goals as goal

pub returns-in_default-clause-tid : goal.returns-in_default-clause-tid
returns-in_default-clause-tid c = λ q u e at. absurd (match_none _ _ _ c.in_default.is (c.tid_at_place.ensures q u e) at.tid at.small (c.as_slice.ensures ∙ at.key))

pub returns-then-not-is_within-clause-tid : goal.returns-then-not-is_within-clause-tid
returns-then-not-is_within-clause-tid c = λ q u e at.
    let found = match_some _ _ _ _ c.in-Some.is (c.tid_at_place.ensures q u e) in
    absurd (none-outside q c.args.low c.args.high c.args.row.now c.in-Some.tid found.0 at (sym c.as_slice.ensures ∙ found.1) (sym c.if-not-is_within.ensures))

pub returns-clause-tid : goal.returns-clause-tid
returns-clause-tid c = λ q u e at.
    let found = match_some _ _ _ _ c.in-Some.is (c.tid_at_place.ensures q u e) in
    record { tid = c.in-Some.tid; key_is = sym c.as_slice.ensures ∙ found.1; new_is = c.in_ok-push.ensures.items }
