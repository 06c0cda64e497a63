use Rattle.std.proofs.Common.{◌≡◌, subst}
use Rattle.std.specs.Prelude.{IfOk}
use Rattle.cp_model.specs.Rows.{read_mark}
use Rattle.cp_store.specs.Told.{reading_if}
use Rattle.cp_paged.proofs.SameRecords.{mark-same, no-mark}
use Rattle.cp_paged.proofs.marks.done_by_row.Goals as goal

pub returns-in-Some : goal.returns-in-Some
returns-in-Some c = λ m says. subst (λ n. IfOk c.done_by.result (λ w. reading_if w ≡ read_mark n c.args.rest.now)) (mark-same _ _ _ c.in-Some.is (c.in_ok-mark.ensures m says)) c.done_by.ensures

pub returns-in-None : goal.returns-in-None
returns-in-None c = λ m says. absurd (no-mark _ _ c.in-None.is (c.in_ok-mark.ensures m says))
