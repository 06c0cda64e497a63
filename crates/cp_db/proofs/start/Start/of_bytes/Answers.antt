use Rattle.std.proofs.Common.{◌∷◌, refl}
use Rattle.std.proofs.lemmas.Result.{err_from_is_err_and}
use Rattle.cp_journal.specs.declared.frame.TheConstants.{ENTRY}
use Rattle.cp_db.specs.Opening.{StartsAs}
use Rattle.cp_db.proofs.OpeningItems.{passed, starts_not}
use Rattle.cp_db.proofs.start.Start.of_bytes.Goals as goal

pub returns-in_err-entry-clause-started : goal.returns-in_err-entry-clause-started
returns-in_err-entry-clause-started g c = λ v f rest tag same.
    let view = g.R.TreeRep.contents in
    passed (StartsAs view c.args.at v (f ∷ rest)) c.from_residual.result c.in_err-entry.field-0.0 (err_from_is_err_and c.from_residual.result c.from_residual.ensures.1)
    (starts_not view c.args.at v f rest c.in_err-entry.field-0.0 tag (c.in_err-entry.ensures.spells f same) c.in_err-entry.ensures.at)

pub of_entry-start-requires-clause-spelled : goal.of_entry-start-requires-clause-spelled
of_entry-start-requires-clause-spelled g c =
    let s = c.in_ok-entry.ensures.spells (record { tag = ENTRY; body = c.args.body.now }) refl in
    (c.args.body.now, s.0, s.1, s.2)

pub returns-clause-started : goal.returns-clause-started
returns-clause-started g c = λ v f rest tag same.
    let s = c.in_ok-entry.ensures.spells f same in
    c.of_entry-start.ensures.started v f rest s.0 tag s.1 s.2
